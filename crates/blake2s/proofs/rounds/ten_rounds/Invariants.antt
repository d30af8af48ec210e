use Rattle.std.proofs.Common.{◌≡◌, true}
use Rattle.base.specs.Lists.{every}
use Rattle.blake2s.specs.Compress.{rounds}
use Rattle.blake2s.proofs.RoundLaws.{small}
use Rattle.blake2s.proofs.rounds.ten_rounds.Given as goal

abbrev pub invariant-loop-s : goal.invariant-loop-s
invariant-loop-s l = (l.v ≡ rounds l.s-index l.m l.initial.v) × (every (every small) l.s-items ≡ true)
