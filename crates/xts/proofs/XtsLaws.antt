-- Decrypting undoes encrypting: a block, a sector, and sectors in a row.
use mathlib.Core.Path.{◌≡◌, refl, ap, sym, ◌∙◌}
use mathlib.Core.List.{List, ◌++◌}
use Prim.Native.Nat.{ℕ, zero, suc, ◌*◌, ◌%◌, ◌<◌}
use native.Mathlib.Omega.{arith}
use lib.Bits.{xor_lt}
use lib.ListN.{length, get_or, replicate}
use Rattle.words.specs.Le.{le, Bytes}
use Rattle.words.specs.Xor.{xorl}
use Rattle.words.proofs.LeLaws.{bytes-append, le_bytes}
use Rattle.words.proofs.XorLaws.{length-xorl, xorl-back}
use Rattle.aes.specs.Aes.{key_expansion, aes256}
use Rattle.aes.proofs.WordLaws.{xorl-bytes}
use Rattle.aes.proofs.StateLaws.{State, tab-state, cipher-state, length-aes}
use Rattle.aes_back.specs.InvAes.{inv_aes256, key_expansion_eic}
use Rattle.aes_back.proofs.EquivalentLaws.{equivalent_key}
use Rattle.aes_back.proofs.InverseLaws.{Inverse, aes-inverse}
use Rattle.xts.specs.Xts.{carried, times_alpha, block_by, over_blocks, tweak_under, sector_by, xts_encrypted, xts_decrypted, over_sectors}
use Rattle.xts.proofs.Rows.{row-back}
use Rattle.xts.proofs.SectorCode.{blocks, sectors, long-block, long-blocks, length-inverse}

carried-lt : (t : List ℕ) → Bytes t → (k : ℕ) → carried t k < 256
unfolding carried
carried-lt t h zero = let l = h 15 in omega arith
carried-lt t h (suc k) = let l = h k in omega arith

-- a tweak stays sixteen bytes
alpha_bytes : (t : List ℕ) → Bytes t → Bytes (times_alpha t)
unfolding times_alpha
alpha_bytes t h = (tab-state _ (λ k l. xor_lt 8 (2 * (get_or t k 0 % 128)) (carried t k) (omega arith) (carried-lt t h k))).bytes

xored : (p t : List ℕ) → State p → Bytes t → State (xorl p t)
xored p t h b = record { long = length-xorl p t ∙ h.long; bytes = xorl-bytes p t h.bytes b }

-- over any cipher and its inverse
module _ (f g : List ℕ → List ℕ) (pair : Inverse f g) (long : (s : List ℕ) → length (f s) ≡ 16) where
  block_back : (t p : List ℕ) → State p → Bytes t → block_by g t (block_by f t p) ≡ p
  unfolding block_by
  block_back t p h b =
      ap (λ (z : List ℕ). xorl (g z) t) (xorl-back (f (xorl p t)) t) ∙ ap (λ (z : List ℕ). xorl z t) (pair.undone (xorl p t) (xored p t h b)) ∙ xorl-back p t

  pub blocks-back : (n : ℕ) (t d : List ℕ) → length d ≡ 16 * n → Bytes d → Bytes t → over_blocks g n t (over_blocks f n t d) ≡ d
  blocks-back = row-back Bytes (blocks f) (blocks g) alpha_bytes (long-block f long) (λ t p h l b. block_back t p (record { long = l; bytes = b }) h)

zeros : Bytes (replicate 8 0)
unfolding le
zeros = le_bytes 8 0

first-long : (i : ℕ) → length (le 8 i ++ replicate 8 0) ≡ 16
unfolding le
first-long i = refl

tweak-bytes : (v : List ℕ) (i : ℕ) → Bytes (tweak_under v i)
unfolding tweak_under
tweak-bytes v i =
    (cipher-state v (le 8 i ++ replicate 8 0)
    (record { long = first-long i; bytes = bytes-append (le 8 i) (replicate 8 0) (le_bytes 8 i) zeros })).bytes

-- a sector decrypted after it was encrypted is the sector
pub sector_back : (one two : List ℕ) (i : ℕ) (d : List ℕ) → length d ≡ 512 → Bytes d → xts_decrypted one two i (xts_encrypted one two i d) ≡ d
unfolding xts_encrypted xts_decrypted sector_by
sector_back one two i d e b = blocks-back (aes256 one) (inv_aes256 one) (aes-inverse one) (length-aes one) 32 (tweak_under (key_expansion two) i) d e b (tweak-bytes (key_expansion two) i)

pub long_sector : (one two : List ℕ) (i : ℕ) (d : List ℕ) → length (xts_encrypted one two i d) ≡ 512
unfolding xts_encrypted sector_by
long_sector one two i d = long-blocks (aes256 one) (length-aes one) 32 (tweak_under (key_expansion two) i) d

length_inv : (one s : List ℕ) → length (inv_aes256 one s) ≡ 16
length_inv one s = ap length (sym (equivalent_key one s)) ∙ length-inverse (key_expansion_eic one) s

pub long_sector_back : (one two : List ℕ) (i : ℕ) (d : List ℕ) → length (xts_decrypted one two i d) ≡ 512
unfolding xts_decrypted sector_by
long_sector_back one two i d = long-blocks (inv_aes256 one) (length_inv one) 32 (tweak_under (key_expansion two) i) d

-- Item 12: "Import after export gives the same contents": every sector comes back
pub sectors_back : (one two : List ℕ) (n i : ℕ) (d : List ℕ) → length d ≡ 512 * n → Bytes d
    → over_sectors (xts_decrypted one two) n i (over_sectors (xts_encrypted one two) n i d) ≡ d
sectors_back one two n i d e b =
    row-back (λ m. Unit {0}) (sectors (xts_encrypted one two)) (sectors (xts_decrypted one two)) (λ m u. tt) (long_sector one two)
    (λ m p u l h. sector_back one two m p l h) n i d e b tt
