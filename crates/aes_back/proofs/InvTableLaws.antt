-- The table of the rounds back against its rule, entry by entry.
use mathlib.Core.Path.{◌≡◌, refl, ap, ◌∙◌}
use Prim.Native.Nat.{ℕ, ◌<◌}
use lib.ListN.{get_or}
use Rattle.base.specs.Lists.{tab}
use Rattle.words.specs.Le.{num}
use Rattle.field.specs.Field.{xtimes, mul_bits, mul}
use Rattle.field.specs.Sbox.{inv_sbox}
use Rattle.field.specs.Tables.{inv_sbox_table}
use Rattle.field.proofs.FieldLaws.{each}
use Rattle.field.proofs.TableLaws.{inv_sbox-at}
use Rattle.aes.proofs.LookLaws.{entry}
use Rattle.aes_back.specs.Tables.{inv_round_table}

all-rounds : tab 256 (λ x. get_or inv_round_table x 0) ≡ tab 256 (λ x. entry 0x0e 0x09 0x0d 0x0b (get_or inv_sbox_table x 0))
unfolding tab num mul mul_bits xtimes inv_sbox_table inv_round_table
all-rounds = refl

pub inv_round-at : (x : ℕ) → x < 256 → get_or inv_round_table x 0 ≡ entry 0x0e 0x09 0x0d 0x0b (inv_sbox x)
inv_round-at x h =
    each 256 (λ y. get_or inv_round_table y 0) (λ y. entry 0x0e 0x09 0x0d 0x0b (get_or inv_sbox_table y 0)) all-rounds x h
    ∙ ap (entry 0x0e 0x09 0x0d 0x0b) (inv_sbox-at x h)
