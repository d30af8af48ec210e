-- A pad is as long as its flake and is bytes, and laid twice it gives the contents back; and what it is by each cipher's own paper.
use mathlib.Core.Path.{◌≡◌, ap, sym, ◌∙◌}
use mathlib.Core.Bool.{true, false}
use mathlib.Core.Logic.{◌⊎◌, inl, inr}
use mathlib.Core.List.{List}
use Prim.Native.Nat.{ℕ, ◌+◌, ◌*◌, ◌/◌, ◌%◌, ◌<◌, ◌≤◌}
use native.Mathlib.Nat.{mul-le-mul, le_of_lt}
use native.Mathlib.Omega.{arith}
use borrow.Author.Tests.{ltb-true, ltb-false}
use lib.Bits.{bit_xor}
use lib.Dec.{eqb, ltb, lit<}
use lib.ListN.{length, get_or, take, get_or-eq_default}
use lib.Seq.{length-take-le, get_or-take, ext_get_or}
use Rattle.base.proofs.PickLaws.{told}
use Rattle.base.proofs.TabLaws.{length-tab, get_or-tab}
use Rattle.words.specs.Le.{Bytes}
use Rattle.words.specs.Xor.{xorl}
use Rattle.words.proofs.XorLaws.{length-xorl, get_or-xorl, xor_assoc, xorl-back}
use Rattle.chacha20.specs.ChaCha20.{keystream, blocks}
use Rattle.chacha20.proofs.KeystreamLaws.{length-keystream}
use Rattle.aes.specs.Aes.{key_expansion}
use Rattle.ctr.specs.Ctr.{output_blocks, blocks as aes_blocks}
use Rattle.ctr.proofs.StreamLaws.{length-stream}
use Rattle.keys.specs.declared.Lock.{Lock}
use Rattle.keys.specs.Ciphers.{stream_byte, nonce_of}
use Rattle.keys.specs.Pads.{cipher_for, first_block, pad_of, under}
use Rattle.keys.proofs.CipherLaws.{lawful, chacha20-byte, aes-byte}

module _ (lock : Lock) (f size : ℕ) where
  pub length-pad : length (pad_of lock f size) ≡ size
  unfolding pad_of
  length-pad = length-tab size _

  -- a byte of it
  pub pad-at : (i : ℕ) → i < size → get_or (pad_of lock f size) i 0 ≡ stream_byte (cipher_for lock) lock.key lock.keycount (first_block (cipher_for lock).unit size f) i
  unfolding pad_of
  pad-at i h = get_or-tab size (stream_byte (cipher_for lock) lock.key lock.keycount (first_block (cipher_for lock).unit size f)) i 0 h

  pub pad-bytes : Bytes (pad_of lock f size)
  pad-bytes i = go (told (ltb i size))
    where
      go : (ltb i size ≡ true) ⊎ (ltb i size ≡ false) → get_or (pad_of lock f size) i 0 < 256
      go (inl e) = rw (pad-at i (ltb-true i size e)) ((lawful lock.cipher).bytes lock.key lock.keycount (first_block (cipher_for lock).unit size f + i / (cipher_for lock).unit) (i % (cipher_for lock).unit))
      go (inr e) = rw (get_or-eq_default (pad_of lock f size) 0 {n = i} (rw length-pad (omega (arith, ltb-false i size e)))) (lit< tt)

  pub length-under : (contents : List ℕ) → length (under lock f size contents) ≡ length contents
  length-under contents = length-xorl contents (pad_of lock f size)

  -- what was laid once and is laid again is the contents
  pub under_back : (contents : List ℕ) → under lock f size (under lock f size contents) ≡ contents
  under_back contents = xorl-back contents (pad_of lock f size)

  module _ (few : f < 64) (short : size ≤ 4096) where
    -- "F bytes of ChaCha20 keystream: the nugget key, nonce of four zero bytes then the keycount, block counter from flake × F / 64"
    pub pad-chacha20 : eqb lock.cipher 16 ≡ false
        → pad_of lock f size ≡ take size (keystream lock.key (nonce_of lock.keycount) (f * size / 64) (blocks size))
    unfolding first_block
    pad-chacha20 e =
        let stream = keystream lock.key (nonce_of lock.keycount) (f * size / 64) (blocks size) in
        let most : f * size ≤ 64 * 4096 = mul-le-mul (le_of_lt few) short in
        let long : length (take size stream) ≡ size =
        length-take-le size stream (rw (length-keystream lock.key (nonce_of lock.keycount) (f * size / 64) (blocks size)) (omega arith)) in
        ext_get_or 0 (pad_of lock f size) (take size stream) (length-pad ∙ sym long) (λ i q.
        let low : i < size = rw length-pad at q in
        pad-at i low
        ∙ rw e (sym (get_or-take size stream i 0 low ∙ chacha20-byte lock.key lock.keycount (f * size / 64) (blocks size) i (omega (arith, most, short)) (omega (arith, low)))))

    -- counter mode under the nugget key, "the keycount in 8 bytes, then the block number from flake × F / 16 in 8 bytes"
    pub pad-aes : eqb lock.cipher 16 ≡ true
        → pad_of lock f size ≡ take size (output_blocks (key_expansion lock.key) lock.keycount (f * size / 16) (aes_blocks size))
    unfolding first_block
    pad-aes e =
        let stream = output_blocks (key_expansion lock.key) lock.keycount (f * size / 16) (aes_blocks size) in
        let most : f * size ≤ 64 * 4096 = mul-le-mul (le_of_lt few) short in
        let long : length (take size stream) ≡ size =
        length-take-le size stream (rw (length-stream (key_expansion lock.key) lock.keycount (f * size / 16) (aes_blocks size)) (omega arith)) in
        ext_get_or 0 (pad_of lock f size) (take size stream) (length-pad ∙ sym long) (λ i q.
        let low : i < size = rw length-pad at q in
        pad-at i low
        ∙ rw e (sym (get_or-take size stream i 0 low ∙ aes-byte lock.key lock.keycount (f * size / 16) (aes_blocks size) i (omega (arith, most, short)) (omega (arith, low)))))

-- bytes laid over d and then others: the same as both laid together
laid-together : (d a b : List ℕ) → length d ≤ length a → xorl (xorl d a) b ≡ xorl d (xorl a b)
laid-together d a b h =
    ext_get_or 0 (xorl (xorl d a) b) (xorl d (xorl a b)) (length-xorl (xorl d a) b ∙ length-xorl d a ∙ sym (length-xorl d (xorl a b))) (λ i q.
    let low : i < length d = omega (arith, q, length-xorl (xorl d a) b, length-xorl d a) in
    get_or-xorl (xorl d a) b i (rw (length-xorl d a) low)
    ∙ ap (λ (x : ℕ). bit_xor x (get_or b i 0)) (get_or-xorl d a i low)
    ∙ xor_assoc (get_or d i 0) (get_or a i 0) (get_or b i 0)
    ∙ sym (get_or-xorl d (xorl a b) i low ∙ ap (λ (x : ℕ). bit_xor (get_or d i 0) x) (get_or-xorl a b i (omega (arith, low, h)))))

-- out of one lock's pad and into another's: old and new pad together over the stored bytes
pub relocked : (old new : Lock) (f size : ℕ) (stored : List ℕ) → length stored ≤ size
    → under new f size (under old f size stored) ≡ xorl stored (xorl (pad_of old f size) (pad_of new f size))
relocked old new f size stored h = laid-together stored (pad_of old f size) (pad_of new f size) (rw (length-pad old f size) h)
