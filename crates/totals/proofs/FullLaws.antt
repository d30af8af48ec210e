-- The totals, and "A fleet shows 100.00 only if every drive has nothing left".
use mathlib.Core.Path.{◌≡◌, refl, ◌∙◌}
use mathlib.Core.Bool.{true}
use mathlib.Core.List.{List, [], ◌∷◌}
use Prim.Native.Nat.{ℕ, zero, suc, ◌+◌, ◌-◌, ◌*◌, ◌<◌, ◌≤◌}
use native.Mathlib.Omega.{arith}
use lib.ListN.{length}
use Rattle.base.specs.Lists.{fold}
use Rattle.reports.specs.Counts.{share_of}
use Rattle.reports.proofs.CountLaws.{Counted}
use Rattle.reports.proofs.ShareLaws.{moved-full, full-moved}
use Rattle.standings.specs.declared.Standing.{Standing}
use Rattle.standings.specs.Standing.{possible}
use Rattle.standings.proofs.StandingLaws.{possible_is}
use Rattle.totals.specs.declared.Fleet.{Fleet}
use Rattle.totals.specs.Fleet.{nothing, nobody, joined, fleet_of, drive_at, sum_of}

-- each column of the totals is that column's sum
pub record Totals (f : Fleet) (ts : List Standing) (t : Standing) : Type 0 where
  pub total_n : t.n ≡ f.total.n + sum_of (λ x. x.n) ts
  pub total_moved : t.counts.moved ≡ f.total.counts.moved + sum_of (λ x. x.counts.moved) ts
  pub total_flakes : t.counts.flakes ≡ f.total.counts.flakes + sum_of (λ x. x.counts.flakes) ts
  pub total_done : t.counts.done ≡ f.total.counts.done + sum_of (λ x. x.counts.done) ts

fold_totals : (ts : List Standing) (f : Fleet) → Totals f ts (fold joined f ts).total
unfolding fold joined sum_of
fold_totals [] f = record { total_n = omega arith; total_moved = omega arith; total_flakes = omega arith; total_done = omega arith }
fold_totals (t ∷ ts) f =
    let h = fold_totals ts (joined f t) in
    record {
      total_n = h.total_n ∙ omega arith;
      total_moved = h.total_moved ∙ omega arith;
      total_flakes = h.total_flakes ∙ omega arith;
      total_done = h.total_done ∙ omega arith;
    }

pub fleet_totals : (ts : List Standing) → Totals nobody ts (fleet_of ts).total
fleet_totals ts = fold_totals ts nobody

-- how counts of drives stand to each other, one drive or more
pub record Ordered (t : Standing) : Type 0 where
  pub moved_le : t.counts.moved ≤ t.n
  pub done_le : t.counts.done ≤ t.counts.flakes
  pub done_few : t.counts.done ≤ 64 * t.counts.moved
  pub rest_few : t.counts.flakes - t.counts.done ≤ 64 * (t.n - t.counts.moved)

stands_none : Ordered nothing
stands_none = record { moved_le = omega arith; done_le = omega arith; done_few = omega arith; rest_few = omega arith }

-- every drive of a list is possible
abbrev pub AllPossible : List Standing → Type 0
AllPossible ts = (k : ℕ) → k < length ts → possible (drive_at ts k) ≡ true

fold_stands : (ts : List Standing) (f : Fleet) → AllPossible ts → Ordered f.total → Ordered (fold joined f ts).total
unfolding fold joined
fold_stands [] f all h = h
fold_stands (t ∷ ts) f all h =
    let p = possible_is t (all 0 (omega arith)) in
    let next : Ordered (joined f t).total = record { moved_le = omega (arith, h.moved_le, p.moved_few); done_le = omega (arith, h.done_le, p.done_present); done_few = omega (arith, h.done_few, p.done_few); rest_few = omega (arith, h.moved_le, h.done_le, h.rest_few, p.moved_few, p.done_present, p.rest_few) } in
    fold_stands ts (joined f t) (λ k s. all (suc k) (omega arith)) next

stands_counted : (t : Standing) → Ordered t → Counted 64 t.n t.counts
stands_counted t h =
    record {
      moved_few = h.moved_le;
      flakes_few = omega (arith, h.moved_le, h.done_le, h.done_few, h.rest_few);
      done_le = h.done_le;
      done_all = λ e. omega (arith, h.done_le, h.rest_few);
    }

-- nothing is left in all exactly if nothing is left of each
moved_sum : (ts : List Standing) → AllPossible ts → sum_of (λ x. x.counts.moved) ts ≤ sum_of (λ x. x.n) ts
unfolding sum_of
moved_sum [] all = omega arith
moved_sum (t ∷ ts) all =
    let p = possible_is t (all 0 (omega arith)) in
    omega (arith, p.moved_few, moved_sum ts (λ k s. all (suc k) (omega arith)))

each-moved : (ts : List Standing) → AllPossible ts → sum_of (λ x. x.counts.moved) ts ≡ sum_of (λ x. x.n) ts → (k : ℕ) → k < length ts → (drive_at ts k).n - (drive_at ts k).counts.moved ≡ 0
unfolding sum_of
each-moved [] all e k h = absurd (omega arith)
each-moved (t ∷ ts) all e zero h =
    let p = possible_is t (all 0 (omega arith)) in
    omega (arith, e, p.moved_few, moved_sum ts (λ k s. all (suc k) (omega arith)))
each-moved (t ∷ ts) all e (suc k) h =
    let p = possible_is t (all 0 (omega arith)) in
    let rest : AllPossible ts = λ k s. all (suc k) (omega arith) in
    each-moved ts rest (omega (arith, e, p.moved_few, moved_sum ts rest)) k (omega arith)

all_moved : (ts : List Standing) → AllPossible ts → ((k : ℕ) → k < length ts → (drive_at ts k).n - (drive_at ts k).counts.moved ≡ 0) → sum_of (λ x. x.counts.moved) ts ≡ sum_of (λ x. x.n) ts
unfolding sum_of
all_moved [] all e = refl
all_moved (t ∷ ts) all e =
    let p = possible_is t (all 0 (omega arith)) in
    omega (arith, p.moved_few, e 0 (omega arith), all_moved ts (λ k s. all (suc k) (omega arith)) (λ k s. e (suc k) (omega arith)))

some-sum : (ts : List Standing) → AllPossible ts → 1 ≤ length ts → 1 ≤ sum_of (λ x. x.n) ts
unfolding sum_of
some-sum [] all h = absurd (omega arith)
some-sum (t ∷ ts) all h = let p = possible_is t (all 0 (omega arith)) in omega (arith, p.some)

-- "A fleet shows 100.00 only if every drive has nothing left", and then
pub fleet_full : (ts : List Standing) → AllPossible ts → 1 ≤ length ts
    → (share_of (fleet_of ts).total.n (fleet_of ts).total.counts ≡ 10000 → (k : ℕ) → k < length ts → (drive_at ts k).n - (drive_at ts k).counts.moved ≡ 0)
    × (((k : ℕ) → k < length ts → (drive_at ts k).n - (drive_at ts k).counts.moved ≡ 0) → share_of (fleet_of ts).total.n (fleet_of ts).total.counts ≡ 10000)
fleet_full ts all some =
    let t = (fleet_of ts).total in
    let sums = fleet_totals ts in
    let counted = stands_counted t (fold_stands ts nobody all stands_none) in
    let more : 1 ≤ t.n = omega (arith, sums.total_n, some-sum ts all some) in (
      λ e. each-moved ts all (omega (arith, sums.total_n, sums.total_moved, full-moved 64 t.n t.counts more counted e)),
      λ e. moved-full 64 t.n t.counts more counted (omega (arith, sums.total_n, sums.total_moved, all_moved ts all e)),
    )
