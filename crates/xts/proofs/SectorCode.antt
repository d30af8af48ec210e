-- The code of a sector: the tweak, a block, and what the sector is.
use mathlib.Core.Path.{◌≡◌, refl, ap, ap₂, ◌∙◌}
use mathlib.Core.List.{List}
use Prim.Native.Nat.{ℕ, suc, ◌*◌}
use lib.ListN.{length, replicate}
use lib.Seq.{sets}
use Rattle.base.proofs.TabLaws.{length-tab}
use Rattle.words.specs.Le.{le, serialised}
use Rattle.words.specs.Xor.{xorl}
use Rattle.words.proofs.XorLaws.{length-xorl}
use Rattle.aes.specs.Aes.{cipher, key_expansion, aes256, round_key, add_round_key}
use Rattle.aes.specs.Code.{state_bytes, state_columns, sum_of}
use Rattle.aes.specs.declared.Columns.{Columns}
use Rattle.aes.proofs.StateLaws.{State, columns-back}
use Rattle.aes.proofs.RoundLaws.{sum-bytes}
use Rattle.aes_back.specs.InvAes.{inv_shift_rows, inv_sub_bytes, eq_rounds, eq_inv_cipher, key_expansion_eic}
use Rattle.aes_back.proofs.EquivalentLaws.{equivalent_key}
use Rattle.xts.specs.Xts.{times_alpha, block_by, over_blocks, tweak_under, sector_by, xts_encrypted, xts_decrypted, over_sectors}
use Rattle.xts.proofs.Rows.{Row, long}

pub sum_is : (p : List ℕ) (t x z : Columns) → State p → x ≡ state_columns p → z ≡ sum_of x t → state_bytes z ≡ xorl p (state_bytes t)
sum_is p t x z hp ex ez = ap state_bytes ez ∙ sum-bytes x t ∙ ap (λ (l : List ℕ). xorl l (state_bytes t)) (ap state_bytes ex ∙ columns-back p hp)

pub block_is : (f : List ℕ → List ℕ) (t p : List ℕ) {x y z : List ℕ} → x ≡ xorl p t → y ≡ f x → z ≡ xorl y t → z ≡ block_by f t p
unfolding block_by
block_is f t p ex ey ez = ez ∙ ap (λ (l : List ℕ). xorl l t) (ey ∙ ap f ex)

pub tweak_is : (w : List ℕ) (i : ℕ) {x r : List ℕ} → x ≡ sets (replicate 16 0) 0 (le 8 i) → r ≡ cipher w x → r ≡ tweak_under w i
unfolding tweak_under le
tweak_is w i ex er = er ∙ ap (cipher w) ex

pub length-inverse : (dw s : List ℕ) → length (eq_inv_cipher dw s) ≡ 16
unfolding eq_inv_cipher add_round_key inv_shift_rows
length-inverse dw s = length-xorl (inv_shift_rows (inv_sub_bytes (eq_rounds dw 13 (add_round_key dw 14 s)))) (serialised (round_key dw 0)) ∙ length-tab 16 _

-- the blocks of a sector, and the sectors of a buffer
pub blocks : (f : List ℕ → List ℕ) → Row 16 times_alpha (block_by f) (over_blocks f)
unfolding over_blocks
blocks f = record { none = λ t d. refl; more = λ n t d. refl }

pub sectors : (f : ℕ → List ℕ → List ℕ) → Row 512 (λ i. suc i) f (over_sectors f)
unfolding over_sectors
sectors f = record { none = λ i d. refl; more = λ n i d. refl }

-- over any cipher that makes sixteen bytes
module _ (f : List ℕ → List ℕ) (sixteen : (s : List ℕ) → length (f s) ≡ 16) where
  pub long-block : (t p : List ℕ) → length (block_by f t p) ≡ 16
  unfolding block_by
  long-block t p = length-xorl (f (xorl p t)) t ∙ sixteen (xorl p t)

  pub long-blocks : (n : ℕ) (t d : List ℕ) → length (over_blocks f n t d) ≡ 16 * n
  long-blocks = long (blocks f) long-block

-- the whole sector
pub sector_is : (one two : List ℕ) (i : ℕ) (d : List ℕ) {w v t r : List ℕ} → w ≡ key_expansion one → v ≡ key_expansion two → t ≡ tweak_under v i
    → r ≡ over_blocks (cipher w) 32 t d → r ≡ xts_encrypted one two i d
unfolding xts_encrypted sector_by aes256
sector_is one two i d ew ev et er =
    er ∙ ap₂ (λ (x y : List ℕ). over_blocks (cipher x) 32 y d) ew (et ∙ ap (λ (z : List ℕ). tweak_under z i) ev)

pub sector_back_is : (one two : List ℕ) (i : ℕ) (d : List ℕ) {dw v t r : List ℕ} → dw ≡ key_expansion_eic one → v ≡ key_expansion two → t ≡ tweak_under v i
    → r ≡ over_blocks (eq_inv_cipher dw) 32 t d → r ≡ xts_decrypted one two i d
unfolding xts_decrypted sector_by
sector_back_is one two i d {dw} {v} {t} ew ev et er =
    er
    ∙ ap₂ (λ (x y : List ℕ). over_blocks (eq_inv_cipher x) 32 y d) ew (et ∙ ap (λ (z : List ℕ). tweak_under z i) ev)
    ∙ (λ j. over_blocks (λ s. equivalent_key one s j) 32 (tweak_under (key_expansion two) i) d)
