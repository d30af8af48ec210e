-- Under the words of the keys: what the loops did is the sectors under the keys.
use mathlib.Core.Path.{◌≡◌, ap, ap₂, ◌∙◌}
use mathlib.Core.List.{List}
use Prim.Native.Nat.{ℕ, ◌/◌}
use lib.ListN.{length}
use Rattle.aes.specs.Aes.{cipher, key_expansion, aes256}
use Rattle.aes_back.specs.InvAes.{eq_inv_cipher, key_expansion_eic}
use Rattle.aes_back.proofs.EquivalentLaws.{equivalent_key}
use Rattle.xts.specs.Xts.{over_blocks, tweak_under, sector_by, xts_encrypted, xts_decrypted, over_sectors}
use Rattle.sectors.specs.Sectors.{encrypted_from, decrypted_from}

-- a sector from its tweak on
pub turned : (f : List ℕ → List ℕ) (v : List ℕ) (i : ℕ) (d : List ℕ) {t z : List ℕ} → t ≡ tweak_under v i → z ≡ over_blocks f 32 t d → z ≡ sector_by f v i d
unfolding sector_by
turned f v i d et ez = ez ∙ ap (λ (x : List ℕ). over_blocks f 32 x d) et

pub encrypted_is : (one two : List ℕ) (i : ℕ) (d : List ℕ) {w v r : List ℕ} → w ≡ key_expansion one → v ≡ key_expansion two
    → r ≡ over_sectors (sector_by (cipher w) v) (length d / 512) i d → r ≡ encrypted_from one two i d
unfolding encrypted_from xts_encrypted sector_by aes256
encrypted_is one two i d ew ev er = er ∙ ap₂ (λ (x y : List ℕ). over_sectors (sector_by (cipher x) y) (length d / 512) i d) ew ev

pub decrypted_is : (one two : List ℕ) (i : ℕ) (d : List ℕ) {dw v r : List ℕ} → dw ≡ key_expansion_eic one → v ≡ key_expansion two
    → r ≡ over_sectors (sector_by (eq_inv_cipher dw) v) (length d / 512) i d → r ≡ decrypted_from one two i d
unfolding decrypted_from xts_decrypted sector_by
decrypted_is one two i d ew ev er =
    er
    ∙ ap₂ (λ (x y : List ℕ). over_sectors (sector_by (eq_inv_cipher x) y) (length d / 512) i d) ew ev
    ∙ (λ j. over_sectors (λ m e. over_blocks (λ s. equivalent_key one s j) 32 (tweak_under (key_expansion two) m) e) (length d / 512) i d)
