-- INVCIPHER and CIPHER undo each other under the same words.
use mathlib.Core.Path.{◌≡◌, ap, sym, ◌∙◌}
use mathlib.Core.List.{List}
use Prim.Native.Nat.{ℕ, zero, suc, ◌+◌, ◌-◌, ◌*◌, ◌/◌, ◌%◌, ◌<◌}
use lib.ListN.{get_or}
use Rattle.base.specs.Lists.{tab}
use Rattle.base.proofs.TabLaws.{get_or-tab, tab_ext}
use Rattle.words.specs.Le.{serialised}
use Rattle.words.proofs.XorLaws.{xorl-back}
use Rattle.field.specs.Sbox.{sbox, inv_sbox}
use Rattle.field.proofs.TableLaws.{inv_sbox-lt, sbox-back, inv_sbox-back}
use Rattle.aes.specs.Aes.{at, sub_bytes, shift_rows, mix_columns, round_key, add_round_key, key_expansion, rounds, cipher, aes256}
use Rattle.aes.proofs.StateLaws.{State, listed, tab-state, sub-state, shift_state, mix-state, add-state}
use Rattle.aes_back.specs.InvAes.{inv_shift_rows, inv_sub_bytes, inv_mix_columns, inv_rounds, inv_cipher, inv_aes256}
use Rattle.aes_back.proofs.MixLaws.{mix-back, inv_undoes, undoes_inv}

-- on states f and g undo each other
pub record Inverse (f g : List ℕ → List ℕ) : Type 0 where
  pub there : (s : List ℕ) → State s → State (f s)
  pub back : (s : List ℕ) → State s → State (g s)
  pub undone : (s : List ℕ) → State s → g (f s) ≡ s
  pub redone : (s : List ℕ) → State s → f (g s) ≡ s

-- one step after another
then : {f g h k : List ℕ → List ℕ} → Inverse f g → Inverse h k → Inverse (λ s. h (f s)) (λ s. g (k s))
then {f} {g} {h} {k} p q = record {
  there = λ s l. q.there (f s) (p.there s l);
  back = λ s l. p.back (k s) (q.back s l);
  undone = λ s l. ap g (q.undone (f s) (p.there s l)) ∙ p.undone s l;
  redone = λ s l. ap h (p.redone (k s) (q.back s l)) ∙ q.redone s l;
}

-- bytes that a rule takes to bytes and another takes back
taken_back : (f g : ℕ → ℕ) (s : List ℕ) → State s → ((x : ℕ) → x < 256 → g (f x) ≡ x) → tab 16 (λ i. g (get_or (tab 16 (λ j. f (get_or s j 0))) i 0)) ≡ s
taken_back f g s h e =
    tab_ext 16 (λ i. g (get_or (tab 16 (λ j. f (get_or s j 0))) i 0)) (λ i. get_or s i 0)
    (λ i l. ap g (get_or-tab 16 (λ j. f (get_or s j 0)) i 0 l) ∙ e (get_or s i 0) (h.bytes i))
    ∙ sym (listed s h.long)

sub-inverse : Inverse sub_bytes inv_sub_bytes
unfolding sub_bytes inv_sub_bytes
sub-inverse = record {
  there = sub-state;
  back = λ s h. tab-state (λ i. inv_sbox (get_or s i 0)) (λ i l. inv_sbox-lt (get_or s i 0) (h.bytes i));
  undone = λ s h. taken_back sbox inv_sbox s h sbox-back;
  redone = λ s h. taken_back inv_sbox sbox s h inv_sbox-back;
}

inv_shift_state : (s : List ℕ) → State s → State (inv_shift_rows s)
unfolding inv_shift_rows
inv_shift_state s h =
    tab-state (λ i. at s (i % 4) ((i / 4 + 4 - i % 4) % 4)) (λ i l. h.bytes (i % 4 + 4 * ((i / 4 + 4 - i % 4) % 4)))

shift_inverse : Inverse shift_rows inv_shift_rows
unfolding shift_rows inv_shift_rows tab
shift_inverse = record {
  there = shift_state;
  back = inv_shift_state;
  undone = λ s h. sym (listed s h.long);
  redone = λ s h. sym (listed s h.long);
}

mix-inverse : Inverse mix_columns inv_mix_columns
mix-inverse = record {
  there = mix-state 0x02 0x01 0x01 0x03;
  back = mix-state 0x0e 0x09 0x0d 0x0b;
  undone = mix-back 0x02 0x01 0x01 0x03 0x0e 0x09 0x0d 0x0b inv_undoes;
  redone = mix-back 0x0e 0x09 0x0d 0x0b 0x02 0x01 0x01 0x03 undoes_inv;
}

module _ (w : List ℕ) where
  -- 5.3.4: ADDROUNDKEY is its own inverse
  add-inverse : (n : ℕ) → Inverse (add_round_key w n) (add_round_key w n)
  unfolding add_round_key
  add-inverse n = record {
    there = add-state w n;
    back = add-state w n;
    undone = λ s h. xorl-back s (serialised (round_key w n));
    redone = λ s h. xorl-back s (serialised (round_key w n));
  }

  -- n rounds and SUBBYTES and SHIFTROWS of the next
  rounds-inverse : (n : ℕ) → Inverse (λ s. shift_rows (sub_bytes (rounds w n s))) (λ s. inv_sub_bytes (inv_shift_rows (inv_rounds w n s)))
  unfolding rounds inv_rounds
  rounds-inverse zero = then sub-inverse shift_inverse
  rounds-inverse (suc n) = then (then (then (then (rounds-inverse n) mix-inverse) (add-inverse (suc n))) sub-inverse) shift_inverse

  pub cipher-inverse : Inverse (cipher w) (inv_cipher w)
  unfolding cipher inv_cipher
  cipher-inverse = then (then (add-inverse 0) (rounds-inverse 13)) (add-inverse 14)

pub aes-inverse : (key : List ℕ) → Inverse (aes256 key) (inv_aes256 key)
unfolding aes256 inv_aes256
aes-inverse key = cipher-inverse (key_expansion key)

-- no other block has this output
pub only_one : (key s : List ℕ) {c : List ℕ} → State s → aes256 key s ≡ c → s ≡ inv_aes256 key c
only_one key s h e = sym ((aes-inverse key).undone s h) ∙ ap (inv_aes256 key) e
