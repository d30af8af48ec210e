-- 256 lines of at most 128 bytes and one byte more decide: what stands behind them in the input changes nothing.
use mathlib.Core.Path.{◌≡◌, refl, sym, ap, ◌∙◌}
use mathlib.Core.Bool.{Bool, true, false}
use mathlib.Core.Logic.{◌⊎◌, inl, inr}
use mathlib.Core.List.{List, [], ◌∷◌}
use Prim.Native.Nat.{ℕ, zero, suc, ◌+◌, ◌-◌, ◌*◌, ◌<◌, ◌≤◌}
use native.Mathlib.Omega.{arith}
use lib.Dec.{eqb, leb, ltb}
use lib.ListN.{length, take, length-take}
use lib.Seq.{take-nil, take_all}
use borrow.Author.Tests.{le-ltb, leb-true, leb-false}
use Rattle.base.specs.Pick.{pick, both}
use Rattle.base.proofs.PickLaws.{told, both_off, both_no}
use Rattle.line.specs.Reading.{up_to, past}
use Rattle.standings.specs.Standing.{standing_in, taken}
use Rattle.standings.proofs.TakenLaws.{taken-short}
use Rattle.totals.specs.declared.Fleet.{Fleet}
use Rattle.totals.specs.Fleet.{nobody, joined}
use Rattle.fleets.specs.Lines.{lines_of, goes, gather_from, gathered_in, printed, fleet_line}
use Rattle.fleets.proofs.GatherLaws.{lines_first}
use Rattle.fleets.proofs.PieceLaws.{up_to_cut}

-- what follows the first line, of the first b bytes
past_cut : (c b : ℕ) (i : List ℕ) → length (up_to c i) < b → past c (take b i) ≡ take (b - suc (length (up_to c i))) (past c i)
unfolding up_to past
past_cut c zero i h = absurd (omega arith)
past_cut c (suc b) [] h = sym (take-nil (suc b - 1))
past_cut c (suc b) (x ∷ i) h = go (eqb x c) h (λ l. past_cut c b i l)
  where
    go : (t : Bool) → length (pick t [] (x ∷ up_to c i)) < suc b → (length (up_to c i) < b → past c (take b i) ≡ take (b - suc (length (up_to c i))) (past c i))
        → pick t (take b i) (past c (take b i)) ≡ take (suc b - suc (length (pick t [] (x ∷ up_to c i)))) (pick t i (past c i))
    go true l again = let e : suc b - 1 ≡ b = omega arith in rw e
    go false l again =
        let e : suc b - suc (suc (length (up_to c i))) ≡ b - suc (length (up_to c i)) = omega arith in
        rw e (again (omega arith))

-- a line too long isn't taken, and there is no 257th
long_stops : (f : Fleet) (l : List ℕ) → 128 ≤ length l → goes f l ≡ false
unfolding goes
long_stops f l h = go (told (taken l))
  where
    go : (taken l ≡ true) ⊎ (taken l ≡ false) → both (ltb f.drives 256) (taken l) ≡ false
    go (inl t) = absurd (omega (arith, taken-short l t))
    go (inr t) = rw t (both_no (ltb f.drives 256))

full_stops : (f : Fleet) (l : List ℕ) → f.drives + 0 ≡ 256 → goes f l ≡ false
unfolding goes
full_stops f l h = both_off _ (le-ltb f.drives 256 (omega arith))

-- two lists of lines whose first lines both end the fleet
both_stop : (f : Fleet) (l m : List ℕ) (ls ms : List (List ℕ)) → goes f l ≡ false → goes f m ≡ false → gather_from f (l ∷ ls) ≡ gather_from f (m ∷ ms)
unfolding gather_from
both_stop f l m ls ms p q = rw (p, q)

-- or whose first line is the same
both_go : (f : Fleet) (l : List ℕ) (ls ms : List (List ℕ)) → (goes f l ≡ true → gather_from (joined f (standing_in l)) ls ≡ gather_from (joined f (standing_in l)) ms)
    → gather_from f (l ∷ ls) ≡ gather_from f (l ∷ ms)
unfolding gather_from
both_go f l ls ms again = go (told (goes f l))
  where
    go : (goes f l ≡ true) ⊎ (goes f l ≡ false) → gather_from f (l ∷ ls) ≡ gather_from f (l ∷ ms)
    go (inl t) = rw t (again t)
    go (inr t) = rw t

-- the first b bytes give what all bytes give
abbrev Same : Fleet → List ℕ → ℕ → Type 0
Same f i b = gather_from f (lines_of i) ≡ gather_from f (lines_of (take b i))

-- with no room for a drive more, any byte decides
enough_full : (i : List ℕ) (f : Fleet) (b : ℕ) → f.drives + 0 ≡ 256 → 1 ≤ b → Same f i b
enough_full i f zero e h = absurd (omega arith)
enough_full [] f (suc b) e h = refl
enough_full (x ∷ i) f (suc b) e h =
    rw (lines_first x i, lines_first x (take b i))
    (both_stop f (up_to 10 (x ∷ i)) (up_to 10 (x ∷ take b i)) (lines_of (past 10 (x ∷ i))) (lines_of (past 10 (x ∷ take b i))) (full_stops f (up_to 10 (x ∷ i)) e) (full_stops f (up_to 10 (x ∷ take b i)) e))

-- with room for m + 1, a line and what m ask
enough_more : (m : ℕ) (i : List ℕ) (f : Fleet) (b : ℕ) → f.drives + suc m ≡ 256 → suc m * 128 + 1 ≤ b
    → ((j : List ℕ) (g : Fleet) (c : ℕ) → g.drives + m ≡ 256 → m * 128 + 1 ≤ c → Same g j c) → Same f i b
unfolding joined
enough_more m i f zero e h again = absurd (omega arith)
enough_more m [] f (suc b) e h again = refl
enough_more m (x ∷ i) f (suc b) e h again = go (told (leb 128 (length (up_to 10 (x ∷ i)))))
  where
    go : (leb 128 (length (up_to 10 (x ∷ i))) ≡ true) ⊎ (leb 128 (length (up_to 10 (x ∷ i))) ≡ false) → gather_from f (lines_of (x ∷ i)) ≡ gather_from f (lines_of (x ∷ take b i))
    go (inl long) =
        let l = leb-true 128 (length (up_to 10 (x ∷ i))) long in
        let k : 128 ≤ length (up_to 10 (take (suc b) (x ∷ i))) = rw (up_to_cut 10 (suc b) (x ∷ i)) (omega (arith, length-take (suc b) (up_to 10 (x ∷ i)))) in
        rw (lines_first x i, lines_first x (take b i))
        (both_stop f (up_to 10 (x ∷ i)) (up_to 10 (x ∷ take b i)) (lines_of (past 10 (x ∷ i))) (lines_of (past 10 (x ∷ take b i))) (long_stops f (up_to 10 (x ∷ i)) l) (long_stops f (up_to 10 (x ∷ take b i)) k))
    go (inr short) =
        let l = leb-false 128 (length (up_to 10 (x ∷ i))) short in
        let c = suc b - suc (length (up_to 10 (x ∷ i))) in
        let same : up_to 10 (take (suc b) (x ∷ i)) ≡ up_to 10 (x ∷ i) = up_to_cut 10 (suc b) (x ∷ i) ∙ take_all (suc b) (up_to 10 (x ∷ i)) (omega arith) in
        let rest : past 10 (take (suc b) (x ∷ i)) ≡ take c (past 10 (x ∷ i)) = past_cut 10 (suc b) (x ∷ i) (omega arith) in
        rw (lines_first x i, lines_first x (take b i), same, rest)
        (both_go f (up_to 10 (x ∷ i)) (lines_of (past 10 (x ∷ i))) (lines_of (take c (past 10 (x ∷ i)))) (λ t. again (past 10 (x ∷ i)) (joined f (standing_in (up_to 10 (x ∷ i)))) c (omega arith) (omega arith)))

enough : (m : ℕ) (i : List ℕ) (f : Fleet) (b : ℕ) → f.drives + m ≡ 256 → m * 128 + 1 ≤ b → Same f i b
enough zero i f b e h = enough_full i f b e (omega arith)
enough (suc m) i f b e h = enough_more m i f b e h (λ j g c p q. enough m j g c p q)

-- the program's buffer loses nothing
pub fleet_enough : (i : List ℕ) → fleet_line i ≡ fleet_line (take 32769 i)
unfolding fleet_line gathered_in
fleet_enough i = ap printed (enough 256 i nobody 32769 (omega arith) (omega arith))
