-- Which line is printed for which lines: all taken, none, or the first that isn't.
use mathlib.Core.Path.{◌≡◌, refl, sym, ap, ◌∙◌}
use mathlib.Core.Bool.{Bool, true, false}
use mathlib.Core.Logic.{◌⊎◌, inl, inr}
use mathlib.Core.List.{List, [], ◌∷◌, map}
use Prim.Native.Nat.{ℕ, zero, suc, ◌+◌, ◌<◌, ◌≤◌}
use native.Mathlib.Omega.{arith}
use lib.Dec.{ltb}
use lib.ListN.{length, get_or, length-map}
use borrow.Author.Tests.{lt-ltb, le-ltb}
use Rattle.base.specs.Pick.{both}
use Rattle.base.specs.Lists.{fold}
use Rattle.base.proofs.PickLaws.{yes, no, both-on, both_off, told}
use Rattle.standings.specs.declared.Standing.{Standing}
use Rattle.standings.specs.Standing.{standing_in, taken}
use Rattle.totals.specs.declared.Fleet.{Fleet}
use Rattle.fleets.specs.Gathered as G
use Rattle.totals.specs.Fleet.{nobody, joined, fleet_of}
use Rattle.fleets.specs.Lines.{lines_of, goes, gather_from, gathered_in, open_line, closed_line, fleet_line}
use Rattle.fleets.specs.Claims.{drives_in, AllTaken, FirstBad}
use Rattle.fleets.proofs.LineLaws.{printed_open, printed-none, printed_closed}

-- one drive more counts one more
pub fold_drives : (ts : List Standing) (f : Fleet) → (fold joined f ts).drives ≡ f.drives + length ts
unfolding fold joined
fold_drives [] f = omega arith
fold_drives (t ∷ ts) f = fold_drives ts (joined f t) ∙ omega arith

goes_on : (f : Fleet) (l : List ℕ) → f.drives < 256 → taken l ≡ true → goes f l ≡ true
unfolding goes
goes_on f l h t = both-on (lt-ltb f.drives 256 h) t

-- lines that are all taken
gather-all : (m : ℕ) (ls : List (List ℕ)) (f : Fleet) → f.drives + m ≡ 256 → AllTaken m ls → gather_from f ls ≡ G.Whole (fold joined f (map standing_in ls))
unfolding gather_from fold joined
gather-all m [] f e a = refl
gather-all zero (l ∷ ls) f e a = absurd (omega (arith, a.few))
gather-all (suc m) (l ∷ ls) f e a =
    let rest : AllTaken m ls = record { few = omega (arith, a.few); each = λ k s. a.each (suc k) (omega arith) } in
    yes _ (goes_on f l (omega arith) (a.each 0 (omega arith))) (gather-all m ls (joined f (standing_in l)) (omega arith) rest)

-- the first line that isn't, or that is one too many
stops : (f : Fleet) (m : ℕ) (l : List ℕ) → f.drives + m ≡ 256 → (taken l ≡ false) ⊎ (0 ≡ m) → goes f l ≡ false
unfolding goes
stops f m l e (inl t) = go (ltb f.drives 256)
  where
    go : (x : Bool) → both x (taken l) ≡ false
    go true = t
    go false = refl
stops f m l e (inr z) = both_off _ (le-ltb f.drives 256 (omega arith))

gather_open : (m k : ℕ) (ls : List (List ℕ)) (f : Fleet) → f.drives + m ≡ 256 → FirstBad m ls k → gather_from f ls ≡ G.Open (f.drives + k + 1)
unfolding gather_from joined
gather_open m k [] f e b = absurd (omega (arith, b.inside))
gather_open m zero (l ∷ ls) f e b =
    let n : f.drives + 1 ≡ f.drives + 0 + 1 = omega arith in
    no _ (stops f m l e b.bad) (ap G.Open n)
gather_open zero (suc k) (l ∷ ls) f e b = absurd (omega (arith, b.few))
gather_open (suc m) (suc k) (l ∷ ls) f e b =
    let n : f.drives + 1 + k + 1 ≡ f.drives + suc k + 1 = omega arith in
    let rest : FirstBad m ls k = record { inside = omega (arith, b.inside); few = omega (arith, b.few); before = λ j t. b.before (suc j) (omega arith); bad = less b.bad } in
    yes _ (goes_on f l (omega arith) (b.before 0 (omega arith))) (gather_open m k ls (joined f (standing_in l)) (omega arith) rest ∙ ap G.Open n)
  where
    less : (taken (get_or ls k []) ≡ false) ⊎ (suc k ≡ suc m) → (taken (get_or ls k []) ≡ false) ⊎ (k ≡ m)
    less (inl t) = inl t
    less (inr t) = inr (omega arith)

-- all lines taken: "`drives=`, the totals [..] and `last=`" of those drives
pub fleet_closed : (i : List ℕ) → 1 ≤ length (lines_of i) → AllTaken 256 (lines_of i) → fleet_line i ≡ closed_line (fleet_of (drives_in i))
unfolding gathered_in
fleet_closed i some a =
    let all : gathered_in i ≡ G.Whole (fleet_of (drives_in i)) = gather-all 256 (lines_of i) nobody (omega arith) a in
    let more : (fleet_of (drives_in i)).drives ≡ 0 → ⊥ = λ z. omega (arith, z, fold_drives (drives_in i) nobody, length-map (lines_of i) standing_in, some) in
    sym (printed_closed i (fleet_of (drives_in i)) refl all more)

-- "The first line that is refused, that no volume within the limits could give, or that is the 257th prints `open=` and its number"
pub fleet_open : (i : List ℕ) (k : ℕ) → FirstBad 256 (lines_of i) k → fleet_line i ≡ open_line (k + 1)
unfolding gathered_in
fleet_open i k b =
    let e : 0 + k + 1 ≡ k + 1 = omega arith in
    sym (printed_open i (k + 1) refl (gather_open 256 k (lines_of i) nobody (omega arith) b ∙ ap G.Open e))

-- "an empty list prints `open=0`"
pub fleet_none : fleet_line [] ≡ open_line 0
unfolding gathered_in gather_from lines_of
fleet_none = sym (printed-none [] nobody refl refl refl)

-- and there is no fourth kind of input: lines are all taken, or there is a first that isn't
pub lines_cases : (m : ℕ) (ls : List (List ℕ)) → AllTaken m ls ⊎ ((k : ℕ) × FirstBad m ls k)
lines_cases m [] = inl (record { few = omega arith; each = λ k s. absurd (omega arith) })
lines_cases zero (l ∷ ls) = inr (0, record { inside = omega arith; few = omega arith; before = λ j s. absurd (omega arith); bad = inr refl })
lines_cases (suc m) (l ∷ ls) = go (told (taken l)) (lines_cases m ls)
  where
    first : taken l ≡ true → (n : ℕ) → ((k : ℕ) → k < n → taken (get_or ls k []) ≡ true) → (k : ℕ) → k < suc n → taken (get_or (l ∷ ls) k []) ≡ true
    first t n each zero s = t
    first t n each (suc k) s = each k (omega arith)

    more : (k : ℕ) → (taken (get_or ls k []) ≡ false) ⊎ (k ≡ m) → (taken (get_or ls k []) ≡ false) ⊎ (suc k ≡ suc m)
    more k (inl t) = inl t
    more k (inr t) = inr (omega arith)

    go : (taken l ≡ true) ⊎ (taken l ≡ false) → AllTaken m ls ⊎ ((k : ℕ) × FirstBad m ls k) → AllTaken (suc m) (l ∷ ls) ⊎ ((k : ℕ) × FirstBad (suc m) (l ∷ ls) k)
    go (inr t) rest = inr (0, record { inside = omega arith; few = omega arith; before = λ j s. absurd (omega arith); bad = inl t })
    go (inl t) (inl a) = inl (record { few = omega (arith, a.few); each = first t (length ls) a.each })
    go (inl t) (inr (k, b)) =
        inr (suc k, record { inside = omega (arith, b.inside); few = omega (arith, b.few); before = first t k b.before; bad = more k b.bad })
