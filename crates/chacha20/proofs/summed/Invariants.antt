use Rattle.words.specs.Le.{serialised}
use Rattle.std.proofs.Common.{◌≡◌, ℕ, ◌*◌, List, ◌++◌, length, get_or, drop}
use Rattle.base.specs.Lists.{tab}
use Rattle.words.specs.Word.{add32}
use Rattle.chacha20.proofs.summed.Given as goal

abbrev sums : List ℕ → List ℕ → ℕ → ℕ
sums w s i = add32 (get_or w i 0) (get_or s i 0)

abbrev pub invariant-loop-i : goal.invariant-loop-i
invariant-loop-i l = (length l.r ≡ 64) × (l.r ≡ serialised (tab l.i (sums l.w l.s)) ++ drop (4 * l.i) l.initial.r)
