-- A double round on sixteen words by name: columns, then diagonals.
use Rattle.std.proofs.Common.{◌≡◌, ℕ, List, length, get_or, sym, ap, ◌∙◌, ext_get_or}
use Rattle.base.specs.Lists.{tab}
use Rattle.base.proofs.TabLaws.{length-tab, get_or-tab}
use Rattle.chacha20.specs.declared.Quads.{Quads}
use Rattle.chacha20.specs.Quads.{columns, diagonals}
use Rattle.chacha20.specs.ChaCha20.{quarter_at, from_diagonals, double_round}

-- a state is the list of its words
pub listed : (s : List ℕ) → length s ≡ 16 → s ≡ tab 16 (λ i. get_or s i 0)
listed s h =
    ext_get_or 0 s (tab 16 (λ i. get_or s i 0)) (h ∙ sym (length-tab 16 (λ i. get_or s i 0)))
    (λ i l. sym (get_or-tab 16 (λ j. get_or s j 0) i 0 (rw h at l)))

pub crossed : (s : List ℕ) → length s ≡ 16 → (p : Quads) → p ≡ diagonals (columns s) → {r : List ℕ} → r ≡ from_diagonals p.q0 p.q1 p.q2 p.q3 → r ≡ double_round s
unfolding double_round quarter_at tab columns diagonals
crossed s h p e made = made ∙ rw e (sym (ap double_round (listed s h)))
