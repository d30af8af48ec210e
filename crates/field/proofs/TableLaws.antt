-- The tables are their rules over all 256 entries, computed; and the second rule undoes the first.
use mathlib.Core.Path.{◌≡◌, refl, ap, ◌∙◌}
use mathlib.Core.List.{List}
use Prim.Native.Nat.{ℕ, suc, ◌%◌, ◌<◌}
use native.Mathlib.Omega.{arith}
use lib.ListN.{get_or}
use Rattle.base.specs.Lists.{tab}
use Rattle.base.proofs.TabLaws.{get_or-tab}
use Rattle.field.specs.Field.{xtimes, mul_bits, mul, inverse}
use Rattle.field.specs.Sbox.{bits_of, affine, inv_affine, sbox, inv_sbox}
use Rattle.field.specs.Tables.{sbox_table, inv_sbox_table}
use Rattle.field.proofs.FieldLaws.{each}

-- Item 8: "The S-box is checked against its defining rule over the whole table."
pub sbox_table_lem : sbox_table ≡ tab 256 sbox
unfolding tab mul mul_bits xtimes inverse bits_of affine sbox sbox_table
sbox_table_lem = refl

pub inv_sbox_table_lem : inv_sbox_table ≡ tab 256 inv_sbox
unfolding tab mul mul_bits xtimes inverse bits_of inv_affine inv_sbox inv_sbox_table
inv_sbox_table_lem = refl

all_one : tab 255 (λ b. mul (suc b) (inverse (suc b))) ≡ tab 255 (λ b. 1)
unfolding tab mul mul_bits xtimes inverse
all_one = refl

-- FIPS 197, 4.4: b • inverse b is 1 for every byte but 0
pub inverse_is : (b : ℕ) → b < 255 → mul (suc b) (inverse (suc b)) ≡ 1
inverse_is = each 255 (λ b. mul (suc b) (inverse (suc b))) (λ b. 1) all_one

pub sbox-at : (x : ℕ) → x < 256 → get_or sbox_table x 0 ≡ sbox x
sbox-at x h = ap (λ (l : List ℕ). get_or l x 0) sbox_table_lem ∙ get_or-tab 256 sbox x 0 h

pub inv_sbox-at : (x : ℕ) → x < 256 → get_or inv_sbox_table x 0 ≡ inv_sbox x
inv_sbox-at x h = ap (λ (l : List ℕ). get_or l x 0) inv_sbox_table_lem ∙ get_or-tab 256 inv_sbox x 0 h

all_small : tab 256 (λ x. get_or sbox_table x 0 % 256) ≡ tab 256 (λ x. get_or sbox_table x 0)
unfolding tab sbox_table
all_small = refl

inv_all-small : tab 256 (λ x. get_or inv_sbox_table x 0 % 256) ≡ tab 256 (λ x. get_or inv_sbox_table x 0)
unfolding tab inv_sbox_table
inv_all-small = refl

all_back : tab 256 (λ x. get_or inv_sbox_table (get_or sbox_table x 0) 0) ≡ tab 256 (λ x. x)
unfolding tab sbox_table inv_sbox_table
all_back = refl

pub sbox-lt : (x : ℕ) → x < 256 → sbox x < 256
sbox-lt x h =
    let e : get_or sbox_table x 0 % 256 ≡ get_or sbox_table x 0 = each 256 (λ y. get_or sbox_table y 0 % 256) (λ y. get_or sbox_table y 0) all_small x h in
    rw (← sbox-at x h) (omega arith)

pub inv_sbox-lt : (x : ℕ) → x < 256 → inv_sbox x < 256
inv_sbox-lt x h =
    let e : get_or inv_sbox_table x 0 % 256 ≡ get_or inv_sbox_table x 0 = each 256 (λ y. get_or inv_sbox_table y 0 % 256) (λ y. get_or inv_sbox_table y 0) inv_all-small x h in
    rw (← inv_sbox-at x h) (omega arith)

all_forth : tab 256 (λ x. get_or sbox_table (get_or inv_sbox_table x 0) 0) ≡ tab 256 (λ x. x)
unfolding tab sbox_table inv_sbox_table
all_forth = refl

-- the two rules undo each other
pub sbox-back : (x : ℕ) → x < 256 → inv_sbox (sbox x) ≡ x
sbox-back x h =
    rw (← inv_sbox-at (sbox x) (sbox-lt x h), ← sbox-at x h) (each 256 (λ y. get_or inv_sbox_table (get_or sbox_table y 0) 0) (λ y. y) all_back x h)

pub inv_sbox-back : (x : ℕ) → x < 256 → sbox (inv_sbox x) ≡ x
inv_sbox-back x h =
    rw (← sbox-at (inv_sbox x) (inv_sbox-lt x h), ← inv_sbox-at x h) (each 256 (λ y. get_or sbox_table (get_or inv_sbox_table y 0) 0) (λ y. y) all_forth x h)
