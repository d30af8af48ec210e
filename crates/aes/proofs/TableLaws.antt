-- The table of the rounds against its rule, entry by entry.
use mathlib.Core.Path.{◌≡◌, refl, ap, ◌∙◌}
use Prim.Native.Nat.{ℕ, ◌/◌, ◌%◌, ◌<◌}
use lib.ListN.{get_or}
use Rattle.base.specs.Lists.{tab}
use Rattle.words.specs.Le.{num}
use Rattle.field.specs.Field.{xtimes, mul_bits, mul}
use Rattle.field.specs.Sbox.{sbox}
use Rattle.field.specs.Tables.{sbox_table}
use Rattle.field.proofs.FieldLaws.{each}
use Rattle.field.proofs.TableLaws.{sbox-at}
use Rattle.aes.specs.Tables.{round_table}
use Rattle.aes.proofs.LookLaws.{entry}

all-rounds : tab 256 (λ x. get_or round_table x 0) ≡ tab 256 (λ x. entry 2 1 1 3 (get_or sbox_table x 0))
unfolding tab num mul mul_bits xtimes sbox_table round_table
all-rounds = refl

all-second : tab 256 (λ x. get_or round_table x 0 / 256 % 256) ≡ tab 256 (λ x. get_or sbox_table x 0)
unfolding tab sbox_table round_table
all-second = refl

pub round-at : (x : ℕ) → x < 256 → get_or round_table x 0 ≡ entry 2 1 1 3 (sbox x)
round-at x h =
    each 256 (λ y. get_or round_table y 0) (λ y. entry 2 1 1 3 (get_or sbox_table y 0)) all-rounds x h ∙ ap (entry 2 1 1 3) (sbox-at x h)

-- SBOX is the second byte of each entry
pub second_at_lem : (x : ℕ) → x < 256 → get_or round_table x 0 / 256 % 256 ≡ sbox x
second_at_lem x h = each 256 (λ y. get_or round_table y 0 / 256 % 256) (λ y. get_or sbox_table y 0) all-second x h ∙ sbox-at x h
