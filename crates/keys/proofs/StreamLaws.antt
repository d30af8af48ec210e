-- A lock's keystream from any byte on, once over any lawful cipher: as it is laid over a piece of a flake and as it is made in scratch.
use mathlib.Core.Path.{◌≡◌, refl, sym, ap, ap₂, ◌∙◌}
use mathlib.Core.Bool.{true, false}
use mathlib.Core.List.{List, [], ◌∷◌, ◌++◌, append-nil}
use Prim.Native.Nat.{ℕ, ◌+◌, ◌-◌, ◌*◌, ◌/◌, ◌%◌, ◌^◌, ◌<◌, ◌≤◌}
use native.Mathlib.Nat.{zero-add, add-zero, add_assoc, mul-add-div, mul-add-mod_self_left, div-add-mod}
use native.Mathlib.Omega.{arith}
use lib.Bits.{bit_xor, xor_zero_l}
use lib.Dec.{eqb}
use lib.ListN.{length, get_or, take, drop, replicate, length-append, length-drop, length-replicate, take-append-drop, get_or-replicate}
use borrow.Rule.Slice.PartMut.{mid_of, post_of, put_mid}
use lib.Seq.{take_at, drop_at, take-length, drop-length, get_or-drop, length-take-le, ext_get_or}
use Rattle.base.specs.Lists.{tab, part}
use Rattle.base.proofs.PartLaws.{length_part}
use Rattle.base.proofs.TabLaws.{length-tab, get_or-tab, tab_ext, tab-add, part-tab}
use Rattle.words.specs.Xor.{xorl}
use Rattle.words.proofs.XorLaws.{get_or-xorl, xorl-append, length-xorl, xorl_ext}
use Rattle.chacha20.specs.ChaCha20.{keystream, blocks, encrypted}
use Rattle.chacha20.proofs.KeystreamLaws.{length-keystream}
use Rattle.ctr.specs.Ctr.{laid_under, counter_mode, blocks as aes_blocks}
use Rattle.keys.specs.declared.Lock.{Lock}
use Rattle.keys.specs.Ciphers.{Cipher, Lawful, stream_byte, nonce_of}
use Rattle.keys.specs.Pads.{cipher_for, first_block, stream_from, pad_of, pad_from}
use Rattle.keys.proofs.CipherLaws.{lawful, chacha20-byte, aes-byte}
use Rattle.keys.proofs.PadLaws.{length-pad, pad-at}

-- past q blocks the keystream goes on from block n + q
pub byte-on : (c : Cipher) → Lawful c → (key : List ℕ) (k n q i : ℕ) → stream_byte c key k n (c.unit * q + i) ≡ stream_byte c key k (n + q) i
byte-on c law key k n q i =
    rw (mul-add-div law.some q i, mul-add-mod_self_left c.unit q i, ← add_assoc n q (i / c.unit))

-- 64 bytes are whole blocks
pub blocks_64 : (c : Cipher) → Lawful c → c.unit * (64 / c.unit) ≡ 64
blocks_64 c law =
    let none : 64 % c.unit ≡ 0 = law.whole 64 refl in
    sym (add-zero (c.unit * (64 / c.unit))) ∙ ap (λ (x : ℕ). c.unit * (64 / c.unit) + x) (sym none) ∙ div-add-mod 64 c.unit

module _ (lock : Lock) where
  abbrev byte_at : ℕ → ℕ → ℕ
  byte_at n i = stream_byte (cipher_for lock) lock.key lock.keycount n i

  pub length-stream : (n skip m : ℕ) → length (stream_from lock n skip m) ≡ m
  unfolding stream_from
  length-stream n skip m = length-tab m _

  pub stream_at : (n skip m i : ℕ) → i < m → get_or (stream_from lock n skip m) i 0 ≡ byte_at n (skip + i)
  unfolding stream_from
  stream_at n skip m i h = get_or-tab m (λ j. byte_at n (skip + j)) i 0 h

  -- what ChaCha20 lays
  pub laid-chacha20 : (n : ℕ) (d : List ℕ) → eqb lock.cipher 16 ≡ false → n < 2 ^ 21 → length d ≤ 4096
      → encrypted lock.key (nonce_of lock.keycount) n d ≡ xorl d (stream_from lock n 0 (length d))
  unfolding encrypted
  laid-chacha20 n d e low short =
      xorl_ext d _ _ (λ i h.
      chacha20-byte lock.key lock.keycount n (blocks (length d)) i (omega (arith, low, short)) (omega (arith, h))
      ∙ sym (stream_at n 0 (length d) i h ∙ rw (e, zero-add i)))

  -- what counter mode lays
  pub laid-aes : (n : ℕ) (d : List ℕ) → eqb lock.cipher 16 ≡ true → n < 2 ^ 21 → length d ≤ 4096
      → counter_mode lock.key lock.keycount n d ≡ xorl d (stream_from lock n 0 (length d))
  unfolding counter_mode laid_under
  laid-aes n d e low short =
      xorl_ext d _ _ (λ i h.
      aes-byte lock.key lock.keycount n (aes_blocks (length d)) i (omega (arith, low, short)) (omega (arith, h))
      ∙ sym (stream_at n 0 (length d) i h ∙ rw (e, zero-add i)))

  -- eight blocks of ChaCha20
  pub eight-chacha20 : (n : ℕ) → eqb lock.cipher 16 ≡ false → n < 2 ^ 20 → keystream lock.key (nonce_of lock.keycount) n 8 ≡ stream_from lock n 0 512
  eight-chacha20 n e low =
      let stream = keystream lock.key (nonce_of lock.keycount) n 8 in
      let long : length stream ≡ 512 = length-keystream lock.key (nonce_of lock.keycount) n 8 in
      ext_get_or 0 stream (stream_from lock n 0 512) (long ∙ sym (length-stream n 0 512)) (λ i q.
      let h : i < 512 = rw long at q in
      chacha20-byte lock.key lock.keycount n 8 i (omega (arith, low)) (omega (arith, h))
      ∙ sym (stream_at n 0 512 i h ∙ rw (e, zero-add i)))

  -- from byte skip of block n on: the rest of 64 bytes, then the blocks behind them
  pub stream-split : (n skip m r : ℕ) → skip + m ≡ 64
      → stream_from lock n skip (m + r) ≡ part skip m (stream_from lock n 0 64) ++ stream_from lock (n + 64 / (cipher_for lock).unit) 0 r
  unfolding stream_from
  stream-split n skip m r e =
      let c = cipher_for lock in
      let law = lawful lock.cipher in
      let whole : List ℕ = tab 64 (λ i. byte_at n (0 + i)) in
      let front : tab m (λ i. byte_at n (skip + i)) ≡ part skip m whole =
      sym (part-tab skip m whole (rw (length-tab 64 (λ i. byte_at n (0 + i))) (omega (arith, e)))
      ∙ tab_ext m _ _ (λ i h. get_or-tab 64 (λ j. byte_at n (0 + j)) (skip + i) 0 (omega (arith, e, h)) ∙ rw (zero-add (skip + i)))) in
      let place : (j : ℕ) → skip + (m + j) ≡ c.unit * (64 / c.unit) + (0 + j) = λ j. rw (blocks_64 c law) (omega (arith, e)) in
      tab-add m r (λ i. byte_at n (skip + i))
      ∙ ap₂ (λ (a b : List ℕ). a ++ b) front (tab_ext r _ _ (λ j h. ap (byte_at n) (place j) ∙ byte-on c law lock.key lock.keycount n (64 / c.unit) (0 + j)))

  stream-none : (n skip : ℕ) → stream_from lock n skip 0 ≡ []
  unfolding stream_from tab
  stream-none n skip = refl

  -- no more than is left of 64 bytes
  pub stream-short : (n : ℕ) (d : List ℕ) (skip : ℕ) {first z : List ℕ} → skip < 64 → length d ≤ 64 - skip → first ≡ stream_from lock n 0 64
      → z ≡ xorl d (part skip (64 - skip) first) → z ≡ xorl d (stream_from lock n skip (length d))
  stream-short n d skip {first} {z} h few ef ez =
      ez ∙ xorl_ext d _ _ (λ i q.
      let none : 64 - skip + 0 ≡ 64 - skip = add-zero (64 - skip) in
      let front : stream_from lock n skip (64 - skip + 0) ≡ part skip (64 - skip) first ++ stream_from lock (n + 64 / (cipher_for lock).unit) 0 0 =
      rw ef (stream-split n skip (64 - skip) 0 (omega (arith, h))) in
      let nothing : stream_from lock (n + 64 / (cipher_for lock).unit) 0 0 ≡ [] = stream-none (n + 64 / (cipher_for lock).unit) 0 in
      ap (λ (l : List ℕ). get_or l i 0) (sym (append-nil (part skip (64 - skip) first)) ∙ ap (λ (l : List ℕ). part skip (64 - skip) first ++ l) (sym nothing)
      ∙ sym front)
      ∙ rw none (stream_at n skip (64 - skip) i (omega (arith, q, few)))
      ∙ sym (stream_at n skip (length d) i q))

  -- what the two lent parts hold in the end
  pub stream-laid : (n : ℕ) (d : List ℕ) (skip m : ℕ) {first z w : List ℕ} → skip + m ≡ 64 → m ≤ length d → first ≡ stream_from lock n 0 64
      → z ≡ xorl (mid_of 0 (m - 0) d) (part skip (64 - skip) first)
      → w ≡ xorl (mid_of m (length (z ++ post_of 0 (m - 0) d) - m) (z ++ post_of 0 (m - 0) d))
      (stream_from lock (n + 64 / (cipher_for lock).unit) 0 (length (mid_of m (length (z ++ post_of 0 (m - 0) d) - m) (z ++ post_of 0 (m - 0) d))))
      → put_mid m (length (z ++ post_of 0 (m - 0) d) - m) (z ++ post_of 0 (m - 0) d) w ≡ xorl d (stream_from lock n skip (length d))
  stream-laid n d skip m {first} {z} {w} e h ef ez ew =
      let next = n + 64 / (cipher_for lock).unit in
      let none : m - 0 ≡ m = omega arith in
      let rest_of : 64 - skip ≡ m = omega (arith, e) in
      let front = part skip m (stream_from lock n 0 64) in
      let long : length front ≡ m = length_part skip m (stream_from lock n 0 64) (rw (length-stream n 0 64) (omega (arith, e))) in
      let one : z ≡ xorl (take m d) front = ez ∙ rw (none, rest_of, ef) in
      let size : length z ≡ m = rw one (length-xorl (take m d) front ∙ length-take-le m d h) in
      let y = z ++ drop m d in
      let back : drop m y ≡ drop m d = drop_at z (drop m d) m size in
      let rest : length y - m ≡ length (drop m d) = omega (arith, length-append z (drop m d), size) in
      let mid : take (length y - m) (drop m y) ≡ drop m d = rw (rest, back) (take-length (drop m d)) in
      let two : w ≡ xorl (drop m d) (stream_from lock next 0 (length (drop m d))) =
      (let g : w ≡ xorl (take (length y - m) (drop m y)) (stream_from lock next 0 (length (take (length y - m) (drop m y)))) = rw none at ew in g ∙ rw mid) in
      let none-behind : drop (length y - m) (drop m y) ≡ [] = rw (rest, back) (drop-length (drop m d)) in
      let whole : length d ≡ m + length (drop m d) = omega (arith, length-drop m d, h) in
      rw none
      (ap (λ (x : List ℕ). x ++ (w ++ drop (length y - m) (drop m y))) (take_at z (drop m d) m size)
      ∙ rw none-behind (ap (λ (x : List ℕ). z ++ x) (append-nil w)
      ∙ rw (one, two) (sym (xorl-append (take m d) (drop m d) front (stream_from lock next 0 (length (drop m d))) (length-take-le m d h ∙ sym long))
      ∙ ap₂ xorl (take-append-drop m d) (sym (stream-split n skip m (length (drop m d)) e) ∙ ap (stream_from lock n skip) (sym whole)))))

  -- the pad from byte b on is the keystream from byte b % unit of block b / unit on
  pub pad_from_lem : (f size b : ℕ) (d : List ℕ) → b + length d ≤ size
      → xorl d (stream_from lock (first_block (cipher_for lock).unit size f + b / (cipher_for lock).unit) (b % (cipher_for lock).unit) (length d)) ≡ xorl d (drop b (pad_of lock f size))
  pad_from_lem f size b d h =
      let c = cipher_for lock in
      let first = first_block c.unit size f in
      xorl_ext d _ _ (λ i q.
      let place : c.unit * (b / c.unit) + (b % c.unit + i) ≡ b + i = sym (add_assoc (c.unit * (b / c.unit)) (b % c.unit) i) ∙ ap (λ (x : ℕ). x + i) (div-add-mod b c.unit) in
      stream_at (first + b / c.unit) (b % c.unit) (length d) i q
      ∙ sym (byte-on c (lawful lock.cipher) lock.key lock.keycount first (b / c.unit) (b % c.unit + i))
      ∙ ap (byte_at first) place
      ∙ sym (get_or-drop b (pad_of lock f size) i 0 ∙ pad-at lock f size (b + i) (omega (arith, q, h))))

-- nothing laid over bytes leaves them
xorl-none : (d : List ℕ) → xorl d [] ≡ d
unfolding xorl
xorl-none [] = refl
xorl-none (a ∷ d) = refl

-- laid over zeros, as many bytes as they are give themselves
pub xorl-zeros : (k : List ℕ) (n : ℕ) → length k ≡ n → xorl (replicate n 0) k ≡ k
xorl-zeros k n e =
    let zeros : List ℕ = replicate n 0 in
    let long : length zeros ≡ n = length-replicate n 0 in
    ext_get_or 0 (xorl zeros k) k (length-xorl zeros k ∙ long ∙ sym e) (λ i q.
    let low : i < n = omega (arith, q, length-xorl zeros k, long) in
    get_or-xorl zeros k i (rw long low) ∙ ap (λ (x : ℕ). bit_xor x (get_or k i 0)) (get_or-replicate n i 0 0 low) ∙ xor_zero_l (get_or k i 0))

-- a keystream laid over zeros is itself
pub stream-bare : (lock : Lock) (n m : ℕ) {z : List ℕ} → z ≡ xorl (replicate m 0) (stream_from lock n 0 (length (replicate {A = ℕ} m 0))) → z ≡ stream_from lock n 0 m
stream-bare lock n m e = e ∙ rw (length-replicate {A = ℕ} m 0) (xorl-zeros (stream_from lock n 0 m) m (length-stream lock n 0 m))

-- each of the 512 bytes is the pad's, or zero
pub pad-byte : (lock : Lock) (f size b i : ℕ) → i < 512 → get_or (pad_from lock f size b) i 0 ≡ get_or (pad_of lock f size) (b + i) 0
unfolding pad_from
pad-byte lock f size b i h =
    let zeros : List ℕ = replicate 512 0 in
    let pad = drop b (pad_of lock f size) in
    get_or-xorl zeros pad i (rw (length-replicate {A = ℕ} 512 0) h)
    ∙ ap (λ (x : ℕ). bit_xor x (get_or pad i 0)) (get_or-replicate 512 i 0 0 h)
    ∙ xor_zero_l (get_or pad i 0)
    ∙ get_or-drop b (pad_of lock f size) i 0

pub length-pad_from : (lock : Lock) (f size b : ℕ) → length (pad_from lock f size b) ≡ 512
unfolding pad_from
length-pad_from lock f size b = length-xorl (replicate 512 0) (drop b (pad_of lock f size)) ∙ length-replicate {A = ℕ} 512 0

module _ (lock : Lock) (f size b : ℕ) (whole : b % 64 ≡ 0) where
  -- 512 bytes, where the pad reaches so far
  pub pad-eight : b + 512 ≤ size → stream_from lock (first_block (cipher_for lock).unit size f + b / (cipher_for lock).unit) 0 512 ≡ pad_from lock f size b
  unfolding pad_from
  pad-eight h =
      let n = first_block (cipher_for lock).unit size f + b / (cipher_for lock).unit in
      let zeros : List ℕ = replicate 512 0 in
      let long : length zeros ≡ 512 = length-replicate {A = ℕ} 512 0 in
      let over : xorl zeros (stream_from lock n (b % (cipher_for lock).unit) (length zeros)) ≡ xorl zeros (drop b (pad_of lock f size)) =
      pad_from_lem lock f size b zeros (rw long h) in
      sym (xorl-zeros (stream_from lock n 0 512) 512 (length-stream lock n 0 512)) ∙ (rw (long, (lawful lock.cipher).whole b whole) at over)

  -- what is left of it, over the first of the zeros
  pub pad-rest : (n : ℕ) {z : List ℕ} → n ≡ size - b → b ≤ size → n ≤ 512 → z ≡ xorl (take n (replicate 512 0)) (drop b (pad_of lock f size))
      → z ++ drop n (replicate 512 0) ≡ pad_from lock f size b
  unfolding pad_from
  pad-rest n e h l ez =
      let zeros : List ℕ = replicate 512 0 in
      let pad = drop b (pad_of lock f size) in
      let long : length zeros ≡ 512 = length-replicate {A = ℕ} 512 0 in
      let same : length (take n zeros) ≡ length pad = length-take-le n zeros (rw long l) ∙ e ∙ sym (length-drop b (pad_of lock f size) ∙ rw (length-pad lock f size)) in
      rw ez
      (ap (λ (x : List ℕ). xorl (take n zeros) pad ++ x) (sym (xorl-none (drop n zeros)))
      ∙ sym (xorl-append (take n zeros) (drop n zeros) pad [] same)
      ∙ rw (take-append-drop n zeros, append-nil pad))
