-- Laws of the listing of one nugget.
use mathlib.Core.Path.{◌≡◌, refl, ◌∙◌}
use mathlib.Core.Bool.{Bool, true, false}
use mathlib.Core.List.{List, [], ◌∷◌}
use Prim.Native.Nat.{ℕ, zero, suc, ◌+◌}
use lib.ListN.{length, length-append}
use Rattle.base.specs.Pick.{pick}
use Rattle.records.specs.declared.Record.{Record}
use Rattle.records.specs.declared.Way.{Way}
use Rattle.records.specs.declared.Way.TheVariants.{Idle, Clear}
use Rattle.records.specs.Journal.{bit, many, flake_count}
use Rattle.records.specs.Rule.{enciphered, keycount_after}
use Rattle.records.specs.Listing.{entry, pads_of, pads_by}
use Rattle.records.proofs.BitLaws.{bit-empty}

-- as many entries as there are flakes in the set
pub length-pads : (n k : ℕ) (s : List ℕ) (g : ℕ → Bool) (p : ℕ) → length (pads_of n k s g p) ≡ many p g
unfolding pads_of many
length-pads n k s g zero = refl
length-pads n k s g (suc p) = length-append (pads_of n k s g p) (pick (g p) (entry n k p s ∷ []) []) ∙ rw (length-pads n k s g p) (go (g p))
  where
    go : (b : Bool) → many p g + length (pick b (entry n k p s ∷ []) []) ≡ many p g + pick b 1 0
    go true = refl
    go false = refl

-- a way lists as many entries as it enciphers flakes
pub length-pads_by : (p : ℕ) (way : Way) (n : ℕ) (r : Record) (s : List ℕ) → length (pads_by p way n r s) ≡ flake_count p (enciphered way r)
unfolding pads_by
length-pads_by p way n r s = length-pads n (keycount_after way r) s (bit (enciphered way r)) p

-- an empty set lists nothing
pub pads-none : (n k : ℕ) (s : List ℕ) (g : ℕ → Bool) (p : ℕ) → ((f : ℕ) → g f ≡ false) → pads_of n k s g p ≡ []
unfolding pads_of
pads-none n k s g zero h = refl
pads-none n k s g (suc p) h = rw (h p, pads-none n k s g p h)

-- nor does an idle nugget
pub pads-idle : (p n : ℕ) (r : Record) (s : List ℕ) → pads_by p Idle n r s ≡ []
unfolding pads_by enciphered
pads-idle p n r s = pads-none n (keycount_after Idle r) s (bit 0) p bit-empty

-- nor one whose held bits are cleared
pub pads-clear : (p m n : ℕ) (r : Record) (s : List ℕ) → pads_by p (Clear m) n r s ≡ []
unfolding pads_by enciphered
pads-clear p m n r s = pads-none n (keycount_after (Clear m) r) s (bit 0) p bit-empty
