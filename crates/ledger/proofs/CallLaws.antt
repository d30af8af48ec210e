-- Laws of what a way lists, and of what a call lists over all nuggets.
use mathlib.Core.Path.{◌≡◌, refl, ◌∙◌}
use mathlib.Core.Bool.{Bool, true, false}
use mathlib.Core.Logic.{◌⊎◌, inl, inr}
use mathlib.Core.Option.{none, some}
use mathlib.Core.List.{List}
use Prim.Native.Nat.{ℕ, zero, suc, ◌+◌, ◌^◌, ◌<◌, ◌≤◌}
use native.Mathlib.Omega.{arith}
use lib.Dec.{eqb, ltb}
use lib.ListN.{length, length-append}
use borrow.Author.Tests.{eqb-true, eqb-false, lt-ltb}
use Rattle.base.specs.Pick.{both}
use Rattle.base.proofs.PickLaws.{told, both_no}
use Rattle.records.specs.declared.Record.{Record}
use Rattle.records.specs.declared.Way.{Way}
use Rattle.records.specs.Journal.{bit, flake_count}
use Rattle.records.specs.Rule.{enciphered, keycount_after}
use Rattle.records.specs.Listing.{entry, pads_of, pads_by, pads_to}
use Rattle.records.proofs.BitLaws.{bit_below}
use Rattle.records.proofs.ListingLaws.{length-pads_by}
use Rattle.ledger.specs.Listing.{one, times, or_else, last_of}
use Rattle.ledger.specs.Totals.{sum}
use Rattle.ledger.proofs.ListingLaws.{or_else-none, times-append, times_in, times-nugget, times-keycount, last-append, last-nugget, last_out, last_in}

module _ (p : ℕ) (way : Way) (n : ℕ) (r : Record) (s : List ℕ) where
  -- a way lists its enciphered flakes once each, at the keycount after it
  pub times-by : (k f : ℕ) → enciphered way r < 2 ^ p
      → times n k f (pads_by p way n r s) ≡ one (both (eqb (keycount_after way r) k) (bit (enciphered way r) f))
  unfolding pads_by
  times-by k f h = go (told (eqb (keycount_after way r) k))
    where
      below : (b : Bool) → bit (enciphered way r) f ≡ b → one (both (ltb f p) b) ≡ one b
      below true e = rw (lt-ltb f p (bit_below p (enciphered way r) f h e))
      below false e = rw (both_no (ltb f p))

      go : (eqb (keycount_after way r) k ≡ true) ⊎ (eqb (keycount_after way r) k ≡ false)
          → times n k f (pads_of n (keycount_after way r) s (bit (enciphered way r)) p)
          ≡ one (both (eqb (keycount_after way r) k) (bit (enciphered way r) f))
      go (inl e) =
          rw (e, eqb-true (keycount_after way r) k e) (times_in n k f s (bit (enciphered way r)) p ∙ below (bit (enciphered way r) f) refl)
      go (inr e) = rw e (times-keycount n k f (keycount_after way r) s (bit (enciphered way r)) p (eqb-false (keycount_after way r) k e))

  -- a nugget's way lists no other nugget
  pub times-by_other : (m k f : ℕ) → (n ≡ m → ⊥) → times m k f (pads_by p way n r s) ≡ 0
  unfolding pads_by
  times-by_other m k f h = times-nugget m k f n (keycount_after way r) s (bit (enciphered way r)) p h

  pub last-by_other : (m f : ℕ) → (n ≡ m → ⊥) → last_of m f (pads_by p way n r s) ≡ none
  unfolding pads_by
  last-by_other m f h = last-nugget m f n (keycount_after way r) s (bit (enciphered way r)) p h

  -- the last entry is the enciphered flake's, at the keycount after
  pub last-by : (f : ℕ) → enciphered way r < 2 ^ p → bit (enciphered way r) f ≡ true
      → last_of n f (pads_by p way n r s) ≡ some (entry n (keycount_after way r) f s)
  unfolding pads_by
  last-by f h e = last_in n f (keycount_after way r) s (bit (enciphered way r)) p (bit_below p (enciphered way r) f h e) e

  pub last-by-none : (f : ℕ) → bit (enciphered way r) f ≡ false → last_of n f (pads_by p way n r s) ≡ none
  unfolding pads_by
  last-by-none f e = last_out n f (keycount_after way r) s (bit (enciphered way r)) p e

module _ (p : ℕ) (way : ℕ → Way) (records : ℕ → Record) (s : List ℕ) where
  -- a nugget past the last is not listed
  pub times-past : (c n k f : ℕ) → c ≤ n → times n k f (pads_to p way records s c) ≡ 0
  unfolding pads_to times
  times-past zero n k f h = refl
  times-past (suc c) n k f h =
      times-append n k f (pads_to p way records s c) (pads_by p (way c) c (records c) s)
      ∙ rw (times-past c n k f (omega arith), times-by_other p (way c) c (records c) s n k f (λ e. omega arith))

  last-past : (c n f : ℕ) → c ≤ n → last_of n f (pads_to p way records s c) ≡ none
  unfolding pads_to last_of
  last-past zero n f h = refl
  last-past (suc c) n f h =
      last-append n f (pads_to p way records s c) (pads_by p (way c) c (records c) s)
      ∙ rw (last-past c n f (omega arith), last-by_other p (way c) c (records c) s n f (λ e. omega arith))

  -- of a nugget a call lists what the nugget's way lists
  pub times-call : (c n k f : ℕ) → n < c → times n k f (pads_to p way records s c) ≡ times n k f (pads_by p (way n) n (records n) s)
  unfolding pads_to
  times-call zero n k f h = absurd (omega arith)
  times-call (suc c) n k f h =
      times-append n k f (pads_to p way records s c) (pads_by p (way c) c (records c) s) ∙ go (told (eqb c n)) (λ l. times-call c n k f l)
    where
      go : (eqb c n ≡ true) ⊎ (eqb c n ≡ false) → (n < c → times n k f (pads_to p way records s c) ≡ times n k f (pads_by p (way n) n (records n) s))
          → times n k f (pads_to p way records s c) + times n k f (pads_by p (way c) c (records c) s) ≡ times n k f (pads_by p (way n) n (records n) s)
      go (inl e) again = let q : c ≡ n = eqb-true c n e in rw (q, times-past n n k f (omega arith)) (omega arith)
      go (inr e) again =
          let q = eqb-false c n e in
          rw (again (omega arith), times-by_other p (way c) c (records c) s n k f q) (omega arith)

  pub last-call : (c n f : ℕ) → n < c → last_of n f (pads_to p way records s c) ≡ last_of n f (pads_by p (way n) n (records n) s)
  unfolding pads_to
  last-call zero n f h = absurd (omega arith)
  last-call (suc c) n f h =
      last-append n f (pads_to p way records s c) (pads_by p (way c) c (records c) s) ∙ go (told (eqb c n)) (λ l. last-call c n f l)
    where
      go : (eqb c n ≡ true) ⊎ (eqb c n ≡ false) → (n < c → last_of n f (pads_to p way records s c) ≡ last_of n f (pads_by p (way n) n (records n) s))
          → or_else (last_of n f (pads_by p (way c) c (records c) s)) (last_of n f (pads_to p way records s c)) ≡ last_of n f (pads_by p (way n) n (records n) s)
      go (inl e) again =
          let q : c ≡ n = eqb-true c n e in
          rw (q, last-past n n f (omega arith)) (or_else-none (last_of n f (pads_by p (way n) n (records n) s)))
      go (inr e) again =
          let q = eqb-false c n e in
          rw (last-by_other p (way c) c (records c) s n f q) (again (omega arith))

  -- how many entries a call lists
  pub length-call : (c : ℕ) → length (pads_to p way records s c) ≡ sum c (λ n. flake_count p (enciphered (way n) (records n)))
  unfolding pads_to sum
  length-call zero = refl
  length-call (suc c) =
      length-append (pads_to p way records s c) (pads_by p (way c) c (records c) s)
      ∙ rw (length-call c, length-pads_by p (way c) c (records c) s)
