use mathlib.Core.Path.{◌≡◌}
use lib.Dec.{eqb}
use lib.ListN.{drop}
use Rattle.queues.specs.Queue.{lengths_of}
use Rattle.queues.proofs.add_up.Given as goal

abbrev pub invariant-loop-i : goal.invariant-loop-i
invariant-loop-i g l =
    let qs = g.R.Requests.listed l.rs in
    eqb (lengths_of (drop l.i qs)) l.left ≡ eqb (lengths_of qs) l.len
