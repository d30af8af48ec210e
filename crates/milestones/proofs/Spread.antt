-- The spread records are well formed and count what they have to.
use mathlib.Core.Path.{◌≡◌, refl, ◌∙◌}
use mathlib.Core.Bool.{Bool, true, false}
use mathlib.Core.Logic.{◌⊎◌, inl, inr}
use Prim.Native.Nat.{ℕ, zero, suc, ◌+◌, ◌-◌, ◌*◌, ◌^◌, ◌<◌, ◌≤◌, min}
use native.Mathlib.Omega.{arith}
use lib.Dec.{eqb, ltb}
use borrow.Author.Tests.{lt-ltb, le-ltb, ltb-true, ltb-false}
use Rattle.base.specs.Pick.{pick, either}
use Rattle.base.proofs.PickLaws.{told, both-on}
use Rattle.records.specs.Journal.{bit, many, flake_count, all_flakes}
use Rattle.layout.specs.declared.Shape.{Shape}
use Rattle.records.specs.Record.{against, well_formed, Codes}
use Rattle.records.proofs.BitLaws.{lies_self}
use Rattle.records.proofs.RuleLaws.{formed-by}
use Rattle.records.proofs.MaskLaws.{with_lt, bit-all}
use Rattle.reports.specs.declared.told.Counts.{Counts}
use Rattle.reports.specs.Counts.{count_of}
use Rattle.standings.specs.declared.Standing.{Standing}
use Rattle.standings.proofs.StandingLaws.{Possible}
use Rattle.milestones.specs.Spread.{flakes_for, record_for, counts_for}

-- how many of the first n numbers are below h
many_below : (n h : ℕ) (g : ℕ → Bool) → ((f : ℕ) → f < n → g f ≡ ltb f h) → many n g ≡ min n h
unfolding many
many_below zero h g e = omega arith
many_below (suc n) h g e = go (told (ltb n h)) (many_below n h g (λ f l. e f (omega arith)))
  where
    go : (ltb n h ≡ true) ⊎ (ltb n h ≡ false) → many n g ≡ min n h → many n g + pick (g n) 1 0 ≡ min (suc n) h
    go (inl t) m = let k = ltb-true n h t in rw (e n (omega arith), t) (omega (arith, m))
    go (inr t) m = let k = ltb-false n h t in rw (e n (omega arith), t) (omega (arith, m))

-- the first h flakes are h
present-all : (h : ℕ) → h ≤ 64 → flake_count 64 (all_flakes h) ≡ h
present-all h l = many_below 64 h (bit (all_flakes h)) (λ f s. bit-all h f ∙ both-on (lt-ltb f 64 s) refl) ∙ omega arith

few : (t : Standing) (k : ℕ) → flakes_for t k ≤ 64
unfolding flakes_for
few t k = go (ltb k t.counts.moved)
  where
    go : (x : Bool) → pick x (min 64 (t.counts.done - 64 * k)) (min 64 (t.counts.flakes - t.counts.done - 64 * (k - t.counts.moved))) ≤ 64
    go true = omega arith
    go false = omega arith

-- each record is well formed in a drive whose epoch becomes 2
pub spread-formed : (t : Standing) (k : ℕ) → well_formed 64 (against 2 true 0) (record_for t k) ≡ true
unfolding record_for
spread-formed t k =
    formed-by 64 (against 2 true 0) (record_for t k) (lt-ltb (all_flakes (flakes_for t k)) (2 ^ 64) (with_lt 64 (λ f. ltb f (flakes_for t k)))) (lies_self (all_flakes (flakes_for t k))) (go (ltb k t.counts.moved))
    (omega arith)
  where
    go : (x : Bool) → either (eqb (pick x 2 1) 2) (eqb (pick x 2 1 + 1) 2) ≡ true
    go true = refl
    go false = refl

pub spread_codes : (s : Shape) (t : Standing) (k : ℕ) → Codes s (record_for t k)
unfolding record_for
spread_codes s t k =
    let low = with_lt 64 (λ f. ltb f (flakes_for t k)) in
    record { keycount_width = omega arith; spent_width = low; held_width = low; epoch_width = go (ltb k t.counts.moved); one_mask = λ one. refl }
  where
    go : (x : Bool) → pick x 2 1 < 2 ^ 16
    go true = omega arith
    go false = omega arith

module _ (t : Standing) where
  abbrev c : Counts
  c = t.counts

  count-moved : (k : ℕ) → k < t.counts.moved
      → count_of 64 2 (record_for t k) ≡ record { moved = 1; flakes = min 64 (t.counts.done - 64 * k); done = min 64 (t.counts.done - 64 * k) }
  unfolding count_of record_for flakes_for
  count-moved k h =
      let e : ltb k t.counts.moved ≡ true = lt-ltb k t.counts.moved h in
      rw (e, present-all (min 64 (t.counts.done - 64 * k)) (omega arith))

  count_left : (k : ℕ) → t.counts.moved ≤ k
      → count_of 64 2 (record_for t k) ≡ record { moved = 0; flakes = min 64 (t.counts.flakes - t.counts.done - 64 * (k - t.counts.moved)); done = 0 }
  unfolding count_of record_for flakes_for
  count_left k h =
      let e : ltb k t.counts.moved ≡ false = le-ltb k t.counts.moved h in
      rw (e, present-all (min 64 (t.counts.flakes - t.counts.done - 64 * (k - t.counts.moved))) (omega arith))

  -- so many of the moved nuggets
  front : (k : ℕ) → k ≤ t.counts.moved → counts_for t k ≡ record { moved = k; flakes = min t.counts.done (64 * k); done = min t.counts.done (64 * k) }
  unfolding counts_for
  front zero h = λ i. record { moved = 0; flakes = none_yet i; done = none_yet i }
    where
      none_yet : 0 ≡ min t.counts.done (64 * 0)
      none_yet = omega arith
  front (suc k) h =
      let m : k + 1 ≡ suc k = omega arith in
      let n : min t.counts.done (64 * k) + min 64 (t.counts.done - 64 * k) ≡ min t.counts.done (64 * suc k) = omega arith in
      rw (front k (omega arith), count-moved k (omega arith)) (λ i. record { moved = m i; flakes = n i; done = n i })

  -- and so many of the nuggets left
  back : Possible t → (j : ℕ)
      → counts_for t (t.counts.moved + j) ≡ record { moved = t.counts.moved; flakes = t.counts.done + min (t.counts.flakes - t.counts.done) (64 * j); done = t.counts.done }
  unfolding counts_for
  back p zero =
      let z : t.counts.moved + 0 ≡ t.counts.moved = omega arith in
      let n : min t.counts.done (64 * t.counts.moved) ≡ t.counts.done = omega (arith, p.done_few) in
      let f : t.counts.done ≡ t.counts.done + min (t.counts.flakes - t.counts.done) (64 * 0) = omega arith in
      rw z (front t.counts.moved (omega arith) ∙ (λ i. record { moved = t.counts.moved; flakes = (n ∙ f) i; done = n i }))
  back p (suc j) =
      let s : t.counts.moved + suc j ≡ suc (t.counts.moved + j) = omega arith in
      let k : t.counts.moved + j - t.counts.moved ≡ j = omega arith in
      let z : t.counts.moved + 0 ≡ t.counts.moved = omega arith in
      let y : t.counts.done + 0 ≡ t.counts.done = omega arith in
      let n : t.counts.done + min (t.counts.flakes - t.counts.done) (64 * j) + min 64 (t.counts.flakes - t.counts.done - 64 * j) ≡ t.counts.done + min (t.counts.flakes - t.counts.done) (64 * suc j) = omega arith in
      rw (s, back p j, count_left (t.counts.moved + j) (omega arith), k) (λ i. record { moved = z i; flakes = n i; done = y i })

  -- possible numbers are those of records
  pub spread-counts : Possible t → counts_for t t.n ≡ t.counts
  spread-counts p =
      let e : t.counts.moved + (t.n - t.counts.moved) ≡ t.n = omega (arith, p.moved_few) in
      let f : t.counts.done + min (t.counts.flakes - t.counts.done) (64 * (t.n - t.counts.moved)) ≡ t.counts.flakes = omega (arith, p.done_present, p.rest_few) in
      rw e at (back p (t.n - t.counts.moved)) ∙ (λ i. record { moved = t.counts.moved; flakes = f i; done = t.counts.done })
