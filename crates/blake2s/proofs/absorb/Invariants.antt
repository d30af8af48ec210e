use Rattle.std.proofs.Common.{◌≡◌, ◌<◌, ◌≤◌, length}
use Rattle.base.specs.Lists.{fold}
use Rattle.blake2s.specs.Stream.{push, absorbed}
use Rattle.blake2s.proofs.StreamLaws.{state_of}
use Rattle.blake2s.proofs.absorb.Given as goal

abbrev pub invariant-loop-block : goal.invariant-loop-block
invariant-loop-block l =
    let left = l.block-iterator.rest.now in
    record {
      by_blocks : l.block-iterator.size ≡ 64;
      full : 0 < length left → 64 ≤ l.fill;
      to_do : fold push (state_of l.chain l.buffer l.fill l.count) left ≡ absorbed l.fn.s l.m;
    }
