-- What demand 3 asks, of any ledger that has the invariant.
use mathlib.Core.Path.{◌≡◌, refl, sym}
use mathlib.Core.Bool.{Bool, true, false}
use mathlib.Core.Logic.{◌⊎◌, inl, inr}
use mathlib.Core.Option.{some}
use Prim.Native.Nat.{ℕ, ◌+◌, ◌<◌, ◌≤◌}
use native.Mathlib.Omega.{arith}
use lib.Dec.{leb, ltb}
use lib.ListN.{length, get_elem?}
use borrow.Author.Tests.{leb-true, leb-false, ltb-true, ltb-false}
use Rattle.base.specs.Pick.{pick}
use Rattle.base.proofs.PickLaws.{told}
use Rattle.words.specs.Xor.{xorl}
use Rattle.words.proofs.XorLaws.{xorl-back}
use Rattle.records.specs.Journal.{bit}
use Rattle.records.specs.Listing.{Entry}
use Rattle.records.proofs.RuleLaws.{formed-keycount}
use Rattle.ledger.specs.Listing.{times, last_of, NoneTwice}
use Rattle.ledger.specs.Totals.{spent_in}
use Rattle.ledger.specs.Ledger.{Kit, Ledger, gauge_in, entry_at, blank_flake, contents}
use Rattle.ledger.specs.Invariant.{Inv}
use Rattle.ledger.proofs.PlaceLaws.{counted, none_twice}

module _ (κ : Kit) (l : Ledger) (inv : Inv κ l) where
  -- "No entry comes twice."
  pub no_entry_twice : NoneTwice l.listing
  no_entry_twice = none_twice l.listing inv.once

  -- "Entries listed equal flakes now present plus, for each keycount rise, its nugget's flakes present just before."
  pub entries-listed : length l.listing ≡ spent_in κ.p κ.n l.records + l.retired
  entries-listed = inv.tally

  -- document 02, Item 7: "no keycount is ever above the counter"
  pub keycounts-below : (n : ℕ) → n < κ.n → (l.records n).keycount ≤ l.counter
  keycounts-below n h = formed-keycount κ.p (gauge_in l) (l.records n) (inv.formed n h)

  -- "Each present flake is its contents under the pad last listed for it.": that pad is the nugget's keycount's, under the
  -- secret of its epoch
  pub under_last : (n f : ℕ) → n < κ.n → bit (l.records n).held f ≡ true
      → (last_of n f l.listing ≡ some (entry_at l n f)) × (l.stored n f ≡ xorl (l.plain n f) (κ.pad (entry_at l n f)))
  under_last n f h e = (inv.named n f h e, inv.laid n f h e)

  -- "What is written is what is later read. A place never written reads as zero."
  pub finds : (n f : ℕ) → n < κ.n → f < κ.p → contents κ l n f ≡ l.plain n f
  unfolding contents
  finds n f h few = go (bit (l.records n).held f) refl
    where
      go : (b : Bool) → bit (l.records n).held f ≡ b → pick b (xorl (l.stored n f) (κ.pad (entry_at l n f))) (blank_flake κ) ≡ l.plain n f
      go true e = rw (inv.laid n f h e) (xorl-back (l.plain n f) (κ.pad (entry_at l n f)))
      go false e = sym (inv.blank n f h few e)

  -- every entry listed is of a flake that there is, at a keycount that its nugget has or had
  pub entry_lies : (i : ℕ) (e : Entry) → get_elem? l.listing i ≡ some e
      → (e.nugget < κ.n) × (e.flake < κ.p) × (e.keycount ≤ (l.records e.nugget).keycount)
  entry_lies i e at =
      let nugget : e.nugget < κ.n = below-n (told (leb κ.n e.nugget)) in
      (nugget, below-p (told (leb κ.p e.flake)), below_k nugget (told (ltb (l.records e.nugget).keycount e.keycount)))
    where
      seen : 1 ≤ times e.nugget e.keycount e.flake l.listing
      seen = counted l.listing i e e at (record { nuggets = refl; keycounts = refl; flakes = refl })

      below-n : (leb κ.n e.nugget ≡ true) ⊎ (leb κ.n e.nugget ≡ false) → e.nugget < κ.n
      below-n (inl d) = absurd (omega (arith, seen, inv.past e.nugget e.keycount e.flake (leb-true κ.n e.nugget d)))
      below-n (inr d) = leb-false κ.n e.nugget d

      below-p : (leb κ.p e.flake ≡ true) ⊎ (leb κ.p e.flake ≡ false) → e.flake < κ.p
      below-p (inl d) = absurd (omega (arith, seen, inv.wide e.nugget e.keycount e.flake (leb-true κ.p e.flake d)))
      below-p (inr d) = leb-false κ.p e.flake d

      below_k : e.nugget < κ.n → (ltb (l.records e.nugget).keycount e.keycount ≡ true) ⊎ (ltb (l.records e.nugget).keycount e.keycount ≡ false)
          → e.keycount ≤ (l.records e.nugget).keycount
      below_k h (inl d) =
          absurd (omega (arith, seen, inv.fresh e.nugget e.keycount e.flake h (ltb-true (l.records e.nugget).keycount e.keycount d)))
      below_k h (inr d) = ltb-false (l.records e.nugget).keycount e.keycount d

  -- "no keycount is ever above the counter", of listed entries too
  pub entry-below : (i : ℕ) (e : Entry) → get_elem? l.listing i ≡ some e → e.keycount ≤ l.counter
  entry-below i e at = let (h, few, k) = entry_lies i e at in omega (arith, k, keycounts-below e.nugget h)
