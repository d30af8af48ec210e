-- The lines of a text, one after the other, and what becomes of the fleet at each.
use mathlib.Core.Path.{◌≡◌, refl, sym, ap, ◌∙◌}
use mathlib.Core.Bool.{Bool, true, false}
use mathlib.Core.Logic.{◌⊎◌, inl, inr}
use mathlib.Core.List.{List, [], ◌∷◌}
use Rattle.std.specs.Prelude.{Option, None, Some, Ok, Err}
use Prim.Native.Nat.{ℕ, suc, ◌+◌, ◌<◌, ◌≤◌}
use native.Mathlib.Omega.{arith}
use lib.Dec.{eqb, ltb}
use lib.ListN.{length, get_or, take, drop}
use lib.Seq.{drop-cons}
use borrow.Author.Tests.{lt-ltb, le-ltb, ltb-true}
use Rattle.base.specs.Pick.{pick}
use Rattle.base.proofs.PickLaws.{yes, no, told, clash, both-on, both_off, both_no, both_left, both_right}
use Rattle.line.specs.Reading.{up_to, past}
use Rattle.line.proofs.ReadLaws.{up_to-take}
use Rattle.standings.specs.declared.Standing.{Standing}
use Rattle.standings.specs.Standing.{possible, standing_in, taken, found_in}
use Rattle.standings.proofs.StandingLaws.{is_possible}
use Rattle.standings.proofs.TakenLaws.{taken-possible}
use Rattle.totals.specs.declared.Fleet.{Fleet}
use Rattle.fleets.specs.Gathered.{Gathered}
use Rattle.fleets.specs.Gathered as G
use Rattle.fleets.specs.declared.Open as O
use Rattle.std.specs.Result.{IsErrAnd}
use Rattle.totals.specs.Fleet.{nobody, joined, Summed}
use Rattle.fleets.specs.Lines.{before, lines_of, goes, with_line, gather_from, gathered_in}
use Rattle.totals.proofs.FleetLaws.{summed-none, summed_more}

-- a text that isn't empty has a first line, and the lines behind it
pub lines_first : (b : ℕ) (t : List ℕ) → lines_of (b ∷ t) ≡ up_to 10 (b ∷ t) ∷ lines_of (past 10 (b ∷ t))
unfolding lines_of up_to past
lines_first b [] = go (eqb b 10)
  where
    go : (x : Bool) → pick x ([] ∷ []) ((b ∷ []) ∷ []) ≡ pick x [] (b ∷ []) ∷ lines_of (pick x [] [])
    go true = refl
    go false = refl
lines_first b (c ∷ t) = go (eqb b 10) (lines_first c t)
  where
    go : (x : Bool) → lines_of (c ∷ t) ≡ up_to 10 (c ∷ t) ∷ lines_of (past 10 (c ∷ t))
        → pick x ([] ∷ lines_of (c ∷ t)) (before b (lines_of (c ∷ t))) ≡ pick x [] (b ∷ up_to 10 (c ∷ t)) ∷ lines_of (pick x (c ∷ t) (past 10 (c ∷ t)))
    go true h = refl
    go false h = ap (before b) h

pub lines_next : (t : List ℕ) (at : ℕ) → at < length t → lines_of (drop at t) ≡ up_to 10 (drop at t) ∷ lines_of (past 10 (drop at t))
lines_next t at h = rw (drop-cons t at 0 h) (lines_first (get_or t at 0) (drop (suc at) t))

-- the line up to the newline that was found
pub line_cut : (t : List ℕ) {end : ℕ} → end ≡ 0 + length (up_to 10 t) → take end t ≡ up_to 10 t
line_cut t {end} e = let f : end ≡ length (up_to 10 t) = omega (arith, e) in rw f (up_to-take 10 t)

-- a line that is taken is possible
pub line-possible : (l : List ℕ) → taken l ≡ true → possible (standing_in l) ≡ true
line-possible l h = is_possible (standing_in l) (taken-possible l h).0

-- what was found in a line
abbrev is_taken : Option Standing → Bool
is_taken (Some t) = true
is_taken None = false

found_by : (l : List ℕ) → is_taken (found_in l) ≡ taken l
unfolding found_in
found_by l = go (taken l)
  where
    go : (x : Bool) → is_taken (pick x (Some (standing_in l)) None) ≡ x
    go true = refl
    go false = refl

pub found_yes : (l : List ℕ) (t : Standing) → found_in l ≡ Some t → (taken l ≡ true) × (t ≡ standing_in l)
unfolding found_in
found_yes l t e =
    let h : taken l ≡ true = sym (found_by l) ∙ ap is_taken e in
    let is : Some (standing_in l) ≡ Some t = sym (yes _ h refl) ∙ e in
    (h, cc)

pub found_possible : (l : List ℕ) (t : Standing) → found_in l ≡ Some t → possible t ≡ true
found_possible l t e = let y = found_yes l t e in rw y.1 (line-possible l y.0)

pub found_no : (l : List ℕ) → found_in l ≡ None → taken l ≡ false
found_no l e = sym (found_by l) ∙ ap is_taken e

-- the fleet with a line more
pub with_yes : (f : Fleet) (l : List ℕ) {t : Standing} {g : Fleet} → f.drives < 256 → found_in l ≡ Some t → g ≡ joined f t → G.Whole g ≡ with_line f l
unfolding with_line goes
with_yes f l {t} {g} h e j =
    let y = found_yes l t e in
    ap G.Whole (j ∙ ap (joined f) y.1) ∙ sym (yes _ (both-on (lt-ltb f.drives 256 h) y.0) refl)

pub with_none : (f : Fleet) (l : List ℕ) → found_in l ≡ None → G.Open (f.drives + 1) ≡ with_line f l
unfolding with_line goes
with_none f l e = let h : taken l ≡ false = found_no l e in let e : goes f l ≡ false = rw h (both_no (ltb f.drives 256)) in sym (no _ e refl)

pub with_many : (f : Fleet) (l : List ℕ) → 256 ≤ f.drives → G.Open (f.drives + 1) ≡ with_line f l
unfolding with_line goes
with_many f l h = sym (no _ (both_off _ (le-ltb f.drives 256 h)) refl)

-- taken apart
abbrev is_whole : Gathered → Bool
is_whole (Ok f) = true
is_whole (Err o) = false

with_by : (f : Fleet) (l : List ℕ) → is_whole (with_line f l) ≡ goes f l
unfolding with_line
with_by f l = go (goes f l)
  where
    go : (x : Bool) → is_whole (pick x (G.Whole (joined f (standing_in l))) (G.Open (f.drives + 1))) ≡ x
    go true = refl
    go false = refl

pub with_whole : (f g : Fleet) (l : List ℕ) → with_line f l ≡ G.Whole g → (goes f l ≡ true) × (g ≡ joined f (standing_in l))
unfolding with_line
with_whole f g l e =
    let h : goes f l ≡ true = sym (with_by f l) ∙ ap is_whole e in
    let is : G.Whole (joined f (standing_in l)) ≡ G.Whole g = sym (yes _ h refl) ∙ e in
    (h, cc)

pub with_open : (f : Fleet) (k : ℕ) (l : List ℕ) → with_line f l ≡ G.Open k → (goes f l ≡ false) × (k ≡ f.drives + 1)
unfolding with_line
with_open f k l e =
    let h : goes f l ≡ false = sym (with_by f l) ∙ ap is_whole e in
    let is : G.Open (f.drives + 1) ≡ G.Open k = sym (no _ h refl) ∙ e in
    (h, sym (ap (λ (g : Gathered). elim g [ Ok h ↦ 0 | Err o ↦ o.line ]) is))

-- the loop's start
pub gather-starts : (t : List ℕ) {l : List ℕ} {f : Fleet} → l ≡ t → f ≡ nobody → (f.drives ≤ 256) × Summed f × (gather_from f (lines_of l) ≡ gathered_in t)
unfolding gathered_in
gather-starts t k e = rw (e, k) (omega arith, summed-none, refl)

-- a turn of the loop, and its ends: t is what is left before it
pub gather-turn : (f g : Fleet) (t r l : List ℕ) {n : Gathered} → 0 < length t → l ≡ up_to 10 t → with_line f l ≡ G.Whole g → r ≡ past 10 t
    → gather_from f (lines_of t) ≡ n → gather_from g (lines_of r) ≡ n
unfolding gather_from
gather-turn f g t r l {n} h e w k q =
    let y = with_whole f g l w in
    let z : goes f (up_to 10 t) ≡ true = rw e at y.0 in
    let j : g ≡ joined f (standing_in (up_to 10 t)) = y.1 ∙ ap (λ (m : List ℕ). joined f (standing_in m)) e in
    let a : pick (goes f (up_to 10 t)) (gather_from (joined f (standing_in (up_to 10 t))) (lines_of (past 10 t))) (G.Open (f.drives + 1)) ≡ n = rw (lines_next t 0 h) at q in
    rw (k, j) (sym (yes _ z refl) ∙ a)

pub gather_stops : (f : Fleet) (k : ℕ) (t l : List ℕ) {n : Gathered} → 0 < length t → l ≡ up_to 10 t → with_line f l ≡ G.Open k
    → gather_from f (lines_of t) ≡ n → G.Open k ≡ n
unfolding gather_from
gather_stops f k t l {n} h e w q =
    let y = with_open f k l w in
    let z : goes f (up_to 10 t) ≡ false = rw e at y.0 in
    let a : pick (goes f (up_to 10 t)) (gather_from (joined f (standing_in (up_to 10 t))) (lines_of (past 10 t))) (G.Open (f.drives + 1)) ≡ n = rw (lines_next t 0 h) at q in
    ap G.Open y.1 ∙ sym (no _ z refl) ∙ a

pub gather-ends : (f : Fleet) (t : List ℕ) {n : Gathered} → length t ≡ 0 → gather_from f (lines_of t) ≡ n → G.Whole f ≡ n
unfolding gather_from lines_of
gather-ends f [] h q = q
gather-ends f (b ∷ t) h q = absurd (omega (arith, h))

-- the fleet after a line that goes
pub goes_keeps : (f g : Fleet) (l : List ℕ) → with_line f l ≡ G.Whole g → Summed f → (g.drives ≤ 256) × Summed g
unfolding goes joined
goes_keeps f g l w s =
    let y = with_whole f g l w in
    let few = ltb-true f.drives 256 (both_left (ltb f.drives 256) _ y.0) in
    rw y.1 (omega (arith, few), summed_more f (standing_in l) s (line-possible l (both_right (ltb f.drives 256) _ y.0)))

-- what is gathered can be summed
gather-summed : (ls : List (List ℕ)) (f g : Fleet) → Summed f → gather_from f ls ≡ G.Whole g → Summed g
unfolding gather_from goes
gather-summed [] f g s e = let is : f ≡ g = cc in rw is at s
gather-summed (l ∷ ls) f g s e = go (told (goes f l)) (λ h. gather-summed ls (joined f (standing_in l)) g (summed_more f (standing_in l) s (line-possible l (both_right (ltb f.drives 256) _ h))))
  where
    go : (goes f l ≡ true) ⊎ (goes f l ≡ false) → (goes f l ≡ true → gather_from (joined f (standing_in l)) ls ≡ G.Whole g → Summed g) → Summed g
    go (inl h) again = again h (sym (yes _ h refl) ∙ e)
    go (inr h) again =
        let z : G.Open (f.drives + 1) ≡ G.Whole g = sym (no _ h refl) ∙ e in
        absurd (clash (ap is_whole z) refl)

pub gathered_summed : (t : List ℕ) (f : Fleet) → gathered_in t ≡ G.Whole f → Summed f
unfolding gathered_in
gathered_summed t f e = gather-summed (lines_of t) nobody f summed-none e

-- what a question mark hands back
pub handed : (r : Gathered) (o : O.Open) → IsErrAnd r (λ e. e ≡ o) → r ≡ Err o
handed (Err e) o h = ap Err h
handed (Ok f) o h = absurd h
