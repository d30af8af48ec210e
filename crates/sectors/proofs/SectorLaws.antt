-- A buffer of whole sectors: its length, its parts, and that decrypting undoes encrypting.
use mathlib.Core.Path.{◌≡◌, ap, ap₂, sym, ◌∙◌}
use mathlib.Core.List.{List, append-nil}
use Prim.Native.Nat.{ℕ, ◌+◌, ◌*◌, ◌/◌, ◌%◌, ◌≤◌}
use native.Mathlib.Omega.{arith}
use lib.ListN.{length, take, drop}
use lib.Seq.{take-take}
use Rattle.base.specs.Lists.{part}
use Rattle.base.proofs.PartLaws.{length_part}
use Rattle.words.specs.Le.{Bytes}
use Rattle.xts.specs.Xts.{xts_encrypted, xts_decrypted, over_sectors}
use Rattle.xts.proofs.XtsLaws.{long_sector, long_sector_back, sectors_back}
use Rattle.sectors.specs.Sectors.{encrypted_from, decrypted_from}
use Rattle.sectors.proofs.RowLaws.{long-row, row-part}

module _ (one two : List ℕ) where
  pub length-encrypted : (i : ℕ) (d : List ℕ) → length d % 512 ≡ 0 → length (encrypted_from one two i d) ≡ length d
  unfolding encrypted_from
  length-encrypted i d h = long-row (xts_encrypted one two) (long_sector one two) (length d / 512) i d ∙ omega arith

  pub length-decrypted : (i : ℕ) (d : List ℕ) → length d % 512 ≡ 0 → length (decrypted_from one two i d) ≡ length d
  unfolding decrypted_from
  length-decrypted i d h = long-row (xts_decrypted one two) (long_sector_back one two) (length d / 512) i d ∙ omega arith

  -- sectors in a row are decrypted without those around them
  pub decrypted-part : (j k : ℕ) (d : List ℕ) → 512 * (j + k) ≤ length d
      → part (512 * j) (512 * k) (decrypted_from one two 0 d) ≡ decrypted_from one two j (part (512 * j) (512 * k) d)
  unfolding decrypted_from
  decrypted-part j k d h =
      let size : length (part (512 * j) (512 * k) d) ≡ 512 * k = length_part (512 * j) (512 * k) d (omega arith) in
      let many : length (part (512 * j) (512 * k) d) / 512 ≡ k = omega (arith, size) in
      let first : 0 + j ≡ j = omega arith in
      row-part (xts_decrypted one two) (long_sector_back one two) (length d / 512) j k 0 d (omega arith)
      ∙ ap₂ (λ (m x : ℕ). over_sectors (xts_decrypted one two) m x (part (512 * j) (512 * k) d)) (sym many) first

  -- "sectors of 512 bytes": sector j of what is encrypted is sector j encrypted
  pub encrypted_sector : (j : ℕ) (d : List ℕ) → 512 * (j + 1) ≤ length d → part (512 * j) 512 (encrypted_from one two 0 d) ≡ xts_encrypted one two j (part (512 * j) 512 d)
  unfolding encrypted_from over_sectors
  encrypted_sector j d h =
      let f = xts_encrypted one two in
      let first : 0 + j ≡ j = omega arith in
      row-part f (long_sector one two) (length d / 512) j 1 0 d (omega arith)
      ∙ append-nil (f (0 + j) (take 512 (part (512 * j) 512 d)))
      ∙ ap₂ (λ (i : ℕ) (x : List ℕ). f i x) first (take-take 512 512 (drop (512 * j) d) (omega arith))

  -- decrypting what was encrypted gives the buffer
  pub decrypted-back : (i : ℕ) (d : List ℕ) → length d % 512 ≡ 0 → Bytes d → decrypted_from one two i (encrypted_from one two i d) ≡ d
  unfolding encrypted_from decrypted_from
  decrypted-back i d h b =
      let size : length (over_sectors (xts_encrypted one two) (length d / 512) i d) ≡ length d =
      long-row (xts_encrypted one two) (long_sector one two) (length d / 512) i d ∙ omega arith in
      ap (λ (n : ℕ). over_sectors (xts_decrypted one two) (n / 512) i (over_sectors (xts_encrypted one two) (length d / 512) i d)) size
      ∙ sectors_back one two (length d / 512) i d (omega arith) b
