use mathlib.Core.Path.{◌≡◌}
use Prim.Native.Nat.{◌+◌, ◌≤◌}
use lib.ListN.{length, drop}
use Rattle.queues.specs.Queue.{lengths_of, writes_from}
use Rattle.queues.proofs.LoopLaws.{Ends}
use Rattle.queues.proofs.write_all.Given as goal

abbrev pub invariant-loop-i : goal.invariant-loop-i
invariant-loop-i g l =
    let qs = g.R.Requests.listed l.rs in
    record {
      long : length l.vol ≡ length l.initial.vol;
      room : l.at + lengths_of (drop l.i qs) ≤ length l.bytes;
      ends : Ends (writes_from l.fn.d l.initial.vol qs l.bytes) l.i (writes_from l.last l.vol (drop l.i qs) (drop l.at l.bytes));
    }
