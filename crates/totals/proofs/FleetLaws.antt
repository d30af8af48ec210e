-- A drive more in a fleet: its fraction, its place, and that no sum rolls over.
use mathlib.Core.Path.{◌≡◌, refl, sym}
use mathlib.Core.Bool.{true}
use Prim.Native.Nat.{◌+◌, ◌^◌, ◌<◌}
use native.Mathlib.Omega.{arith}
use borrow.Author.Tests.{eq-eqb, ne_eqb}
use Rattle.base.proofs.PickLaws.{yes, no}
use Rattle.standings.specs.declared.Standing.{Standing}
use Rattle.standings.specs.Standing.{possible}
use Rattle.standings.proofs.StandingLaws.{possible_is, flakes_few}
use Rattle.totals.specs.declared.Fleet.{Fleet}
use Rattle.totals.specs.declared.Fraction.{Fraction}
use Rattle.totals.specs.Fleet.{fraction_of, is_behind, nobody, is_last, joined, Summed}

pub fraction_empty : (t : Standing) → t.counts.flakes ≡ 0 → ◌≡◌ {A = Fraction} (record { done = t.counts.moved; all = t.n }) (fraction_of t)
unfolding fraction_of
fraction_empty t e = sym (yes _ (eq-eqb t.counts.flakes 0 e) refl)

pub fraction_flakes : (t : Standing) → (t.counts.flakes ≡ 0 → ⊥) → ◌≡◌ {A = Fraction} (record { done = t.counts.done; all = t.counts.flakes }) (fraction_of t)
unfolding fraction_of
fraction_flakes t ne = sym (no _ (ne_eqb t.counts.flakes 0 ne) refl)

-- the first is the last, and a later one if it is behind
pub last-first : (f : Fleet) (t : Standing) → f.drives ≡ 0 → true ≡ is_last f t
unfolding is_last
last-first f t e = rw (eq-eqb f.drives 0 e)

pub last-later : (f : Fleet) (t : Standing) → (f.drives ≡ 0 → ⊥) → is_behind t f.least ≡ is_last f t
unfolding is_last
last-later f t ne = rw (ne_eqb f.drives 0 ne)

-- 256 drives' sums are below 2^32
pub sums_fit : (f : Fleet) (t : Standing) → f.drives < 256 → Summed f → possible t ≡ true
    → (f.total.n + t.n < 2 ^ 32) × (f.total.counts.moved + t.counts.moved < 2 ^ 32)
    × (f.total.counts.flakes + t.counts.flakes < 2 ^ 32) × (f.total.counts.done + t.counts.done < 2 ^ 32)
sums_fit f t h s p =
    let q = possible_is t p in
    let k = flakes_few t q in (
      omega (arith, s.sum_n, q.few),
      omega (arith, s.sum_n, s.sum_moved, q.few, q.moved_few),
      omega (arith, s.sum_flakes, k),
      omega (arith, s.sum_flakes, s.sum_done, k, q.done_present),
    )

pub summed-none : Summed nobody
summed-none = record { sum_n = omega arith; sum_moved = omega arith; sum_flakes = omega arith; sum_done = omega arith }

pub summed_more : (f : Fleet) (t : Standing) → Summed f → possible t ≡ true → Summed (joined f t)
unfolding joined
summed_more f t s p =
    let q = possible_is t p in
    record {
      sum_n = omega (arith, s.sum_n, q.few);
      sum_moved = omega (arith, s.sum_moved, q.moved_few);
      sum_flakes = omega (arith, s.sum_flakes, flakes_few t q);
      sum_done = omega (arith, s.sum_done, q.done_present);
    }
