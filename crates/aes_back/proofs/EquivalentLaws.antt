-- 5.3.5: EQINVCIPHER under the modified key schedule is INVCIPHER, so it undoes CIPHER.
use mathlib.Core.Path.{◌≡◌, refl, ap, ap₂, sym, ◌∙◌}
use mathlib.Core.List.{List, [], ◌∷◌}
use Prim.Native.Nat.{ℕ, zero, suc, ◌+◌, ◌*◌, ◌/◌, ◌%◌, ◌<◌, ◌≤◌}
use native.Mathlib.Omega.{arith}
use lib.Bits.{bit_xor}
use lib.ListN.{get_or}
use Rattle.base.specs.Lists.{tab}
use Rattle.base.proofs.TabLaws.{get_or-tab}
use Rattle.words.specs.Le.{num, le, serialised}
use Rattle.words.specs.Xor.{xorl}
use Rattle.words.proofs.LeLaws.{le-num}
use Rattle.field.specs.Field.{matrix}
use Rattle.field.specs.Sbox.{inv_sbox}
use Rattle.aes.specs.Aes.{by_columns, round_key, add_round_key, key_expansion, aes256}
use Rattle.aes.proofs.LookLaws.{matrix-long, matrix-bytes}
use Rattle.aes.proofs.StateLaws.{State, app}
use Rattle.aes_back.specs.InvAes.{inv_shift_rows, inv_sub_bytes, inv_mix_column, inv_mix_columns, inv_rounds, inv_cipher, inv_aes256, mixed_word, modified_at, modified, key_expansion_eic, eq_rounds, eq_inv_cipher}
use Rattle.aes_back.proofs.InvRoundLaws.{modified-low, modified_mid, modified-high}
use Rattle.aes_back.proofs.MixLaws.{matrix-sum}
use Rattle.aes_back.proofs.InverseLaws.{aes-inverse}

mixed_bytes : (x : ℕ) → le 4 (mixed_word x) ≡ inv_mix_column (x % 256) (x / 256 % 256) (x / 256 / 256 % 256) (x / 256 / 256 / 256 % 256)
unfolding mixed_word
mixed_bytes x =
    let l = inv_mix_column (x % 256) (x / 256 % 256) (x / 256 / 256 % 256) (x / 256 / 256 / 256 % 256) in
    ap (λ (n : ℕ). le n (num l)) (sym (matrix-long 0x0e 0x09 0x0d 0x0b _ _ _ _))
    ∙ le-num l (matrix-bytes 0x0e 0x09 0x0d 0x0b _ _ _ _ (omega arith) (omega arith) (omega arith) (omega arith))

-- a word of the key may be mixed beforehand
one_mixed : (a b c d k : ℕ)
    → inv_mix_column (bit_xor a (k % 256)) (bit_xor b (k / 256 % 256)) (bit_xor c (k / 256 / 256 % 256)) (bit_xor d (k / 256 / 256 / 256 % 256))
    ≡ xorl (inv_mix_column a b c d) (le 4 (mixed_word k))
one_mixed a b c d k =
    matrix-sum 0x0e 0x09 0x0d 0x0b a b c d _ _ _ _ ∙ ap (λ (l : List ℕ). xorl (inv_mix_column a b c d) l) (sym (mixed_bytes k))

keys_mixed : (f : ℕ → ℕ) (k0 k1 k2 k3 : ℕ) → inv_mix_columns (xorl (tab 16 f) (serialised (k0 ∷ k1 ∷ k2 ∷ k3 ∷ [])))
    ≡ xorl (inv_mix_columns (tab 16 f)) (serialised (mixed_word k0 ∷ mixed_word k1 ∷ mixed_word k2 ∷ mixed_word k3 ∷ []))
unfolding by_columns xorl tab serialised le matrix
keys_mixed f k0 k1 k2 k3 =
    ap₂ app (one_mixed (f 0) (f 1) (f 2) (f 3) k0)
    (ap₂ app (one_mixed (f 4) (f 5) (f 6) (f 7) k1) (ap₂ app (one_mixed (f 8) (f 9) (f 10) (f 11) k2) (one_mixed (f 12) (f 13) (f 14) (f 15) k3)))

module _ (w : List ℕ) where
  modified_at_lem : (i : ℕ) → i < 60 → get_or (modified w) i 0 ≡ modified_at i (get_or w i 0)
  unfolding modified
  modified_at_lem i h = get_or-tab 60 (λ j. modified_at j (get_or w j 0)) i 0 h

  mixed_at : (i : ℕ) → 4 ≤ i → i < 56 → get_or (modified w) i 0 ≡ mixed_word (get_or w i 0)
  mixed_at i h l = modified_at_lem i (omega arith) ∙ sym (modified_mid i _ h l)

  low-at : (i : ℕ) → i < 4 → get_or (modified w) i 0 ≡ get_or w i 0
  low-at i h = modified_at_lem i (omega arith) ∙ sym (modified-low i _ h)

  high-at : (i : ℕ) → 56 ≤ i → i < 60 → get_or (modified w) i 0 ≡ get_or w i 0
  high-at i h l = modified_at_lem i l ∙ sym (modified-high i _ h)

  first_stands : (s : List ℕ) → add_round_key (modified w) 0 s ≡ add_round_key w 0 s
  unfolding add_round_key round_key
  first_stands s = rw (low-at 0 (omega arith), low-at 1 (omega arith), low-at 2 (omega arith), low-at 3 (omega arith))

  last_stands : (s : List ℕ) → add_round_key (modified w) 14 s ≡ add_round_key w 14 s
  unfolding add_round_key round_key
  last_stands s =
      rw (
        high-at 56 (omega arith) (omega arith),
        high-at 57 (omega arith) (omega arith),
        high-at 58 (omega arith) (omega arith),
        high-at 59 (omega arith) (omega arith),
      )

  turned : (s : List ℕ) → inv_shift_rows (inv_sub_bytes s) ≡ inv_sub_bytes (inv_shift_rows s)
  unfolding inv_shift_rows inv_sub_bytes tab
  turned s = refl

  -- the key is added after the columns are mixed, with its words mixed
  key_mixed : (n : ℕ) (s : List ℕ) → n < 13
      → add_round_key (modified w) (suc n) (inv_mix_columns (inv_shift_rows (inv_sub_bytes s))) ≡ inv_mix_columns (add_round_key w (suc n) (inv_sub_bytes (inv_shift_rows s)))
  unfolding add_round_key round_key inv_sub_bytes
  key_mixed n s h =
      let m = 4 * suc n in
      let y : ℕ → ℕ = λ i. inv_sbox (get_or (inv_shift_rows s) i 0) in
      let e0 = mixed_at m (omega arith) (omega arith) in
      let e1 = mixed_at (m + 1) (omega arith) (omega arith) in
      let e2 = mixed_at (m + 2) (omega arith) (omega arith) in
      let e3 = mixed_at (m + 3) (omega arith) (omega arith) in
      (λ i. xorl (inv_mix_columns (turned s i)) (serialised (e0 i ∷ e1 i ∷ e2 i ∷ e3 i ∷ [])))
      ∙ sym (keys_mixed y (get_or w m 0) (get_or w (m + 1) 0) (get_or w (m + 2) 0) (get_or w (m + 3) 0))

  rounds-same : (n : ℕ) (s : List ℕ) → n ≤ 13 → eq_rounds (modified w) n s ≡ inv_rounds w n s
  unfolding eq_rounds inv_rounds
  rounds-same zero s h = refl
  rounds-same (suc n) s h = ap (eq_rounds (modified w) n) (key_mixed n s (omega arith)) ∙ rounds-same n (inv_mix_columns (add_round_key w (suc n) (inv_sub_bytes (inv_shift_rows s)))) (omega arith)

  pub equivalent : (s : List ℕ) → eq_inv_cipher (modified w) s ≡ inv_cipher w s
  unfolding eq_inv_cipher inv_cipher
  equivalent s =
      first_stands _
      ∙ ap (add_round_key w 0) (turned _ ∙ ap (λ (z : List ℕ). inv_sub_bytes (inv_shift_rows z)) (rounds-same 13 _ (omega arith) ∙ ap (inv_rounds w 13) (last_stands s)))

-- what the code computes is the inverse
pub equivalent_key : (key s : List ℕ) → eq_inv_cipher (key_expansion_eic key) s ≡ inv_aes256 key s
unfolding key_expansion_eic inv_aes256
equivalent_key key s = equivalent (key_expansion key) s

pub decrypted : (key s : List ℕ) → State s → eq_inv_cipher (key_expansion_eic key) (aes256 key s) ≡ s
decrypted key s h = equivalent_key key (aes256 key s) ∙ (aes-inverse key).undone s h
