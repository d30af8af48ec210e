-- A line is taken exactly if it is the line of possible numbers; and then these are what it tells.
use mathlib.Core.Path.{◌≡◌}
use mathlib.Core.Bool.{true}
use mathlib.Core.List.{List}
use Prim.Native.Nat.{ℕ, ◌-◌, ◌≤◌}
use native.Mathlib.Omega.{arith}
use lib.ListN.{length}
use Rattle.base.proofs.PickLaws.{both-on, both_left, both_right}
use Rattle.base.proofs.FoldLaws.{same_true, same_refl}
use Rattle.reports.specs.Counts.{share_of}
use Rattle.line.proofs.FieldLaws.{nuggets-told, moved_told, flakes_told, done_told}
use Rattle.standings.specs.declared.Standing.{Standing}
use Rattle.standings.specs.Standing.{standing_text, possible, standing_in, taken}
use Rattle.standings.proofs.StandingLaws.{Possible, possible_is, is_possible, flakes_few, standing_le}

-- a taken line is the line of possible numbers
pub taken-possible : (l : List ℕ) → taken l ≡ true → Possible (standing_in l) × (standing_text (standing_in l) ≡ l)
unfolding taken
taken-possible l h = (
  possible_is (standing_in l) (both_left (possible (standing_in l)) _ h),
  same_true (standing_text (standing_in l)) l (both_right (possible (standing_in l)) _ h),
)

-- so it is short
pub taken-short : (l : List ℕ) → taken l ≡ true → length l ≤ 105
taken-short l h = rw (taken-possible l h).1 at (standing_le (standing_in l))

-- the line of possible numbers tells them
pub text_tells : (t : Standing) → Possible t → standing_in (standing_text t) ≡ t
unfolding standing_in standing_text
text_tells t h =
    let c = t.counts in
    let k = flakes_few t h in
    let l = t.n - c.moved in
    let s = share_of t.n c in
    let n = nuggets-told t.n c.moved l c.flakes s c.done (omega (arith, h.few)) in
    let m = moved_told t.n c.moved l c.flakes s c.done (omega (arith, h.few, h.moved_few)) in
    let f = flakes_told t.n c.moved l c.flakes s c.done (omega (arith, k)) in
    let d = done_told t.n c.moved l c.flakes s c.done (omega (arith, k, h.done_present)) in
    λ i. record { n = n i; counts = record { moved = m i; flakes = f i; done = d i } }

-- and is taken
pub text_taken : (t : Standing) → Possible t → taken (standing_text t) ≡ true
unfolding taken
text_taken t h = rw (text_tells t h) (both-on (is_possible t h) (same_refl (standing_text t)))
