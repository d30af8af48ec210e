-- A turn of each counting loop, and how the counts stand to each other.
use mathlib.Core.Path.{◌≡◌, refl, ap}
use mathlib.Core.Bool.{Bool, true, false}
use mathlib.Core.List.{List}
use Prim.Native.Nat.{ℕ, zero, suc, ◌+◌, ◌*◌, ◌^◌, ◌<◌, ◌≤◌}
use native.Mathlib.Nat.{lt_of_lt_of_le}
use native.Mathlib.Numerals.{add-one}
use native.Mathlib.Omega.{arith}
use lib.Pow.{pow_mono}
use lib.Dec.{eqb}
use borrow.Author.Tests.{eq-eqb, ne_eqb}
use Rattle.base.specs.Pick.{pick}
use Rattle.layout.specs.declared.Shape.{Shape}
use Rattle.records.specs.Journal.{many, flake_count}
use Rattle.records.specs.Record.{record_of}
use Rattle.records.specs.declared.Record.{Record}
use Rattle.records.proofs.CountLaws.{many-le, present-le, present_more}
use Rattle.reports.specs.declared.told.Counts.{Counts}
use Rattle.reports.specs.Counts.{is_moved, moved_in, flakes_in, count_of, none, plus, counts_in}

-- before the first turn
pub counts-none : (s : Shape) (p e : ℕ) (v : List ℕ) {c : Counts} → (c.moved ≡ 0) × ((c.flakes ≡ 0) × (c.done ≡ 0)) → c ≡ counts_in s p e v 0
unfolding counts_in
counts-none s p e v {c} h =
    let z : ◌≡◌ {A = Counts} (record { moved = c.moved; flakes = c.flakes; done = c.done }) none = rw (h.0, h.1.0, h.1.1) refl in
    z

-- a turn at nugget i, whose record r was read at its place
pub counts_more : (s : Shape) (p e : ℕ) (v : List ℕ) (i : ℕ) {c k m : Counts} {r : Record} → c ≡ counts_in s p e v i → r ≡ record_of s v i
    → k ≡ count_of p e r → m ≡ plus c k → m ≡ counts_in s p e v (i + 1)
unfolding counts_in
counts_more s p e v i ec er ek em = rw (em, ec, ek, er, add-one i)

-- of a record that has moved, and of one that has not
pub count-one : (p e : ℕ) (r : Record) {k : ℕ} → k ≡ flake_count p r.held → r.epoch ≡ e
    → ◌≡◌ {A = Counts} (record { moved = 1; flakes = k; done = k }) (count_of p e r)
unfolding count_of
count-one p e r ek ee = rw (eq-eqb r.epoch e ee, ek)

pub count_none : (p e : ℕ) (r : Record) {k : ℕ} → k ≡ flake_count p r.held → (r.epoch ≡ e → ⊥)
    → ◌≡◌ {A = Counts} (record { moved = 0; flakes = k; done = 0 }) (count_of p e r)
unfolding count_of
count_none p e r ek ne = rw (ne_eqb r.epoch e ne, ek)

-- no more have moved than there are
pub moved_le : (s : Shape) (e : ℕ) (v : List ℕ) (n : ℕ) → moved_in s e v n ≤ n
moved_le s e v n = many-le n (is_moved s e v)

-- the counts are those of finish and of the listing
pub counts-moved : (s : Shape) (p e : ℕ) (v : List ℕ) (n : ℕ) → (counts_in s p e v n).moved ≡ moved_in s e v n
unfolding counts_in count_of many
counts-moved s p e v zero = refl
counts-moved s p e v (suc n) = rw (counts-moved s p e v n)

pub counts-flakes : (s : Shape) (p e : ℕ) (v : List ℕ) (n : ℕ) → (counts_in s p e v n).flakes ≡ flakes_in s p v n
unfolding counts_in count_of flakes_in
counts-flakes s p e v zero = refl
counts-flakes s p e v (suc n) = rw (counts-flakes s p e v n)

-- counts of n records with at most p flakes each
pub record Counted (p n : ℕ) (c : Counts) : Type 0 where
  pub moved_few : c.moved ≤ n
  pub flakes_few : c.flakes ≤ n * p
  pub done_le : c.done ≤ c.flakes
  pub done_all : c.moved ≡ n → c.done ≡ c.flakes

one_more_lem : (p n : ℕ) (c : Counts) (b : Bool) (k : ℕ) → k ≤ p → Counted p n c
    → Counted p (suc n) (plus c (record { moved = pick b 1 0; flakes = k; done = pick b k 0 }))
one_more_lem p n c true k l h =
    record {
      moved_few = omega (arith, h.moved_few);
      flakes_few = omega (arith, h.flakes_few);
      done_le = omega (arith, h.done_le);
      done_all = λ e. ap (λ (d : ℕ). d + k) (h.done_all (omega arith));
    }
one_more_lem p n c false k l h =
    record {
      moved_few = omega (arith, h.moved_few);
      flakes_few = omega (arith, h.flakes_few);
      done_le = omega (arith, h.done_le);
      done_all = λ e. absurd (omega (arith, h.moved_few));
    }

pub counts_stand : (s : Shape) (p e : ℕ) (v : List ℕ) (n : ℕ) → Counted p n (counts_in s p e v n)
unfolding counts_in count_of
counts_stand s p e v zero = record { moved_few = omega arith; flakes_few = omega arith; done_le = omega arith; done_all = λ e. refl }
counts_stand s p e v (suc n) =
    one_more_lem p n (counts_in s p e v n) (is_moved s e v n) (flake_count p (record_of s v n).held) (present-le p (record_of s v n).held) (counts_stand s p e v n)

-- no sum of a turn rolls over
pub counts_fit : (s : Shape) (e : ℕ) (v : List ℕ) (i : ℕ) (r : Record) {c k : Counts} → i < 16384 → c ≡ counts_in s 64 e v i → k ≡ count_of 64 e r
    → (c.moved + k.moved < 2 ^ 32) × (c.flakes + k.flakes < 2 ^ 32) × (c.done + k.done < 2 ^ 32)
unfolding count_of
counts_fit s e v i r l ec ek =
    let h = one_more_lem 64 i (counts_in s 64 e v i) (eqb r.epoch e) (flake_count 64 r.held) (present-le 64 r.held) (counts_stand s 64 e v i) in
    rw (ec, ek) (omega (arith, h.moved_few), omega (arith, h.flakes_few), omega (arith, h.flakes_few, h.done_le))

-- where no record holds a flake at or above P, the ones of its word are its flakes below P
pub counts-below : (s : Shape) (p e : ℕ) (v : List ℕ) (n : ℕ) → p ≤ 64 → ((m : ℕ) → m < n → (record_of s v m).held < 2 ^ p) → counts_in s 64 e v n ≡ counts_in s p e v n
unfolding counts_in count_of
counts-below s p e v zero h f = refl
counts-below s p e v (suc n) h f =
    let low : (record_of s v n).held < 2 ^ p = f n (omega arith) in
    rw (counts-below s p e v n h (λ m l. f m (omega arith)), present_more p 64 (record_of s v n).held low (lt_of_lt_of_le low (pow_mono h)))
