use Rattle.std.proofs.Common.{◌≡◌, ◌*◌, length, drop}
use Rattle.words.specs.Le.{serialised}
use lib.Seq.{sets}
use Rattle.images.proofs.row.Given as goal

abbrev pub invariant-loop-i : goal.invariant-loop-i
invariant-loop-i g l = (length l.out ≡ length l.initial.out) × (sets l.out (4 * l.i) (serialised (drop l.i l.xs)) ≡ sets l.initial.out 0 (serialised l.xs))
