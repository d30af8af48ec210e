use Rattle.std.proofs.Common.{◌≡◌, ◌*◌, length, drop}
use Rattle.words.specs.Le.{serialised}
use lib.Seq.{sets}
use Rattle.blake2s.proofs.bytes_of.Given as goal

abbrev pub invariant-loop-i : goal.invariant-loop-i
invariant-loop-i l = (length l.r ≡ 32) × (sets l.r (4 * l.i) (serialised (drop l.i l.x-items)) ≡ sets l.initial.r 0 (serialised l.x-items))
