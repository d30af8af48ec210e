-- A round back on four words is the round back on sixteen bytes.
use mathlib.Core.Path.{◌≡◌, refl, ap, ap₂, sym, ◌∙◌}
use mathlib.Core.List.{List, [], ◌∷◌, ◌++◌}
use Prim.Native.Nat.{ℕ, zero, suc, ◌+◌, ◌/◌, ◌%◌, ◌<◌, ◌≤◌}
use native.Mathlib.Omega.{arith}
use lib.Bits.{bit_xor}
use borrow.Author.Tests.{lt-ltb, le-ltb, le-leb, lt-leb}
use Rattle.std.proofs.lemmas.List.{set-get_or}
use lib.ListN.{length, get_or, set, drop}
use Rattle.base.specs.Lists.{tab}
use Rattle.base.proofs.PickLaws.{yes, no}
use Rattle.base.proofs.TabLaws.{tab-none, tab_more, tab-next, tab-all}
use Rattle.words.specs.Le.{num, le, serialised}
use Rattle.words.specs.Xor.{xorl}
use Rattle.words.proofs.LeLaws.{le-num}
use Rattle.field.specs.Field.{matrix}
use Rattle.field.specs.Sbox.{sbox, inv_sbox}
use Rattle.field.specs.Tables.{inv_sbox_table}
use Rattle.field.proofs.TableLaws.{sbox-lt, inv_sbox-at, inv_sbox-lt, sbox-back}
use Rattle.aes.specs.Aes.{by_columns, round_key, add_round_key, sub_word}
use Rattle.aes.specs.Code.{state_bytes, key_columns, looked_up, rows_by}
use Rattle.aes.specs.declared.Columns.{Columns}
use Rattle.aes.proofs.WordLaws.{four_bytes}
use Rattle.aes.proofs.LookLaws.{entry, looked_up_lem, column_keyed, rows-keyed}
use Rattle.aes.proofs.StateLaws.{app}
use Rattle.aes.proofs.RoundLaws.{key-bytes}
use Rattle.aes_back.specs.InvAes.{inv_shift_rows, inv_sub_bytes, inv_mix_columns, mixed_word, modified_at, modified, eq_rounds}
use Rattle.aes_back.specs.Tables.{inv_round_table}
use Rattle.aes_back.proofs.InvTableLaws.{inv_round-at}

module _ (t : List ℕ) (whole : t ≡ inv_round_table) where
  has : (x : ℕ) → x < 256 → get_or t x 0 ≡ entry 0x0e 0x09 0x0d 0x0b (inv_sbox x)
  has x h = ap (λ (l : List ℕ). get_or l x 0) whole ∙ inv_round-at x h

  column : (a b c d key : ℕ) {p : ℕ} → p ≡ looked_up t a b c d
      → le 4 (bit_xor p key)
      ≡ xorl (matrix 0x0e 0x09 0x0d 0x0b (inv_sbox (a % 256)) (inv_sbox (b / 256 % 256)) (inv_sbox (c / 256 / 256 % 256)) (inv_sbox (d / 256 / 256 / 256 % 256))) (le 4 key)
  column = column_keyed 0x0e 0x09 0x0d 0x0b t inv_sbox has inv_sbox-lt

  -- four columns are the round
  pub round_code : (s k : Columns) {p q r v : ℕ} → p ≡ looked_up t s.a s.d s.c s.b → q ≡ looked_up t s.b s.a s.d s.c
      → r ≡ looked_up t s.c s.b s.a s.d → v ≡ looked_up t s.d s.c s.b s.a
      → state_bytes (record { a = bit_xor p k.a; b = bit_xor q k.b; c = bit_xor r k.c; d = bit_xor v k.d })
      ≡ xorl (inv_mix_columns (inv_shift_rows (inv_sub_bytes (state_bytes s)))) (state_bytes k)
  unfolding state_bytes serialised by_columns matrix inv_shift_rows inv_sub_bytes xorl tab le
  round_code s k ep eq er ev =
      ap₂ app (column s.a s.d s.c s.b k.a ep)
      (ap₂ app (column s.b s.a s.d s.c k.b eq)
      (ap₂ app (column s.c s.b s.a s.d k.c er) (ap₂ app (column s.d s.c s.b s.a k.d ev) refl)))

  -- a word through SUBWORD and the table is INVMIXCOLUMNS of the word
  pub mixed_code : (x : ℕ) {y r : ℕ} → y ≡ sub_word x → r ≡ looked_up t y y y y → r ≡ mixed_word x
  unfolding mixed_word sub_word tab le
  mixed_code x {y} e f =
      let sub : List ℕ = sbox (x % 256) ∷ sbox (x / 256 % 256) ∷ sbox (x / 256 / 256 % 256) ∷ sbox (x / 256 / 256 / 256 % 256) ∷ [] in
      let bytes : le 4 y ≡ sub
      = ap (le 4) e ∙ le-num sub (four_bytes _ _ _ _ (sbox-lt (x % 256) (omega arith)) (sbox-lt (x / 256 % 256) (omega arith)) (sbox-lt (x / 256 / 256 % 256) (omega arith))
      (sbox-lt (x / 256 / 256 / 256 % 256) (omega arith))) in
      let at : ℕ → List ℕ → ℕ = λ i l. get_or l i 0 in
      let e0 : inv_sbox (y % 256) ≡ x % 256 = ap inv_sbox (ap (at 0) bytes) ∙ sbox-back (x % 256) (omega arith) in
      let e1 : inv_sbox (y / 256 % 256) ≡ x / 256 % 256 = ap inv_sbox (ap (at 1) bytes) ∙ sbox-back (x / 256 % 256) (omega arith) in
      let e2 : inv_sbox (y / 256 / 256 % 256) ≡ x / 256 / 256 % 256 = ap inv_sbox (ap (at 2) bytes) ∙ sbox-back (x / 256 / 256 % 256) (omega arith) in
      let e3 : inv_sbox (y / 256 / 256 / 256 % 256) ≡ x / 256 / 256 / 256 % 256 = ap inv_sbox (ap (at 3) bytes) ∙ sbox-back (x / 256 / 256 / 256 % 256) (omega arith) in
      f ∙ looked_up_lem 0x0e 0x09 0x0d 0x0b t inv_sbox has inv_sbox-lt y y y y ∙ (λ i. num (matrix 0x0e 0x09 0x0d 0x0b (e0 i) (e1 i) (e2 i) (e3 i)))

pub modified-low : (i x : ℕ) → i < 4 → x ≡ modified_at i x
unfolding modified_at
modified-low i x h = sym (yes _ (lt-ltb i 4 h) refl)

pub modified-high : (i x : ℕ) → 56 ≤ i → x ≡ modified_at i x
unfolding modified_at
modified-high i x h = let l : 4 ≤ i = omega arith in sym (no _ (le-ltb i 4 l) (yes _ (le-leb 56 i h) refl))

pub modified_mid : (i x : ℕ) → 4 ≤ i → i < 56 → mixed_word x ≡ modified_at i x
unfolding modified_at
modified_mid i x h l = sym (no _ (le-ltb i 4 h) (no _ (lt-leb 56 i l) refl))

-- the first n words of w are modified, the others as they were in d
abbrev pub Modified : List ℕ → ℕ → List ℕ → Type 0
Modified d n w = w ≡ tab n (λ j. modified_at j (get_or d j 0)) ++ drop n d

-- m words that stand
standing : (d w : List ℕ) (m n : ℕ) → ((j : ℕ) → n ≤ j → j < n + m → get_or d j 0 ≡ modified_at j (get_or d j 0)) → n + m ≤ length d → Modified d n w → Modified d (n + m) w
standing d w zero n same l e = let z : n + 0 ≡ n = omega arith in rw z e
standing d w (suc m) n same l e =
    let now : Modified d (n + 1) (set w n (get_or w n 0))
    = tab_more _ d n e (tab-next _ d n 0 e (omega arith) ∙ same n (omega arith) (omega arith)) (omega arith) in
    let next : n + suc m ≡ n + 1 + m = omega arith in
    rw next (standing d w m (n + 1) (λ j h b. same j (omega arith) (omega arith)) (omega arith) (rw (set-get_or w n 0) at now))

pub modified_first : (d : List ℕ) → length d ≡ 60 → Modified d 4 d
modified_first d l = standing d d 4 0 (λ j h b. modified-low j _ (omega arith)) (omega arith) (tab-none _ d)

pub modified_all : (d w : List ℕ) (n : ℕ) → length d ≡ 60 → n ≡ 56 → Modified d n w → w ≡ modified d
unfolding modified
modified_all d w n l e h =
    tab-all _ d 60 60 (standing d w 4 56 (λ j g b. modified-high j _ g) (omega arith) (rw e at h)) refl (omega arith)

-- what the code loads as a column's rows
pub rows_code : (t : List ℕ) → t ≡ inv_sbox_table → (a b c d : ℕ)
    → num (get_or t (a % 256) 0 ∷ get_or t (b / 256 % 256) 0 ∷ get_or t (c / 256 / 256 % 256) 0 ∷ get_or t (d / 256 / 256 / 256 % 256) 0 ∷ []) ≡ rows_by inv_sbox a b c d
unfolding rows_by
rows_code t whole a b c d =
    let one : (x : ℕ) → x < 256 → get_or t x 0 ≡ inv_sbox x = λ x h. ap (λ (l : List ℕ). get_or l x 0) whole ∙ inv_sbox-at x h in
    let ea = one (a % 256) (omega arith) in
    let eb = one (b / 256 % 256) (omega arith) in
    let ec = one (c / 256 / 256 % 256) (omega arith) in
    let ed = one (d / 256 / 256 / 256 % 256) (omega arith) in
    λ i. num (ea i ∷ eb i ∷ ec i ∷ ed i ∷ [])

pub last_round_code : (s k : Columns) {p q r v : ℕ} → p ≡ rows_by inv_sbox s.a s.d s.c s.b → q ≡ rows_by inv_sbox s.b s.a s.d s.c
    → r ≡ rows_by inv_sbox s.c s.b s.a s.d → v ≡ rows_by inv_sbox s.d s.c s.b s.a
    → state_bytes (record { a = bit_xor p k.a; b = bit_xor q k.b; c = bit_xor r k.c; d = bit_xor v k.d })
    ≡ xorl (inv_shift_rows (inv_sub_bytes (state_bytes s))) (state_bytes k)
unfolding state_bytes serialised inv_shift_rows inv_sub_bytes xorl tab le
last_round_code s k ep eq er ev =
    ap₂ app (rows-keyed inv_sbox inv_sbox-lt s.a s.d s.c s.b k.a ep)
    (ap₂ app (rows-keyed inv_sbox inv_sbox-lt s.b s.a s.d s.c k.b eq)
    (ap₂ app (rows-keyed inv_sbox inv_sbox-lt s.c s.b s.a s.d k.c er)
    (ap₂ app (rows-keyed inv_sbox inv_sbox-lt s.d s.c s.b s.a k.d ev) refl)))

-- a round done, and what is left gives what is asked
pub rounds-less : (dw s : List ℕ) (n m : ℕ) (x k y : Columns) → n ≡ suc m → k ≡ key_columns dw n
    → state_bytes y ≡ xorl (inv_mix_columns (inv_shift_rows (inv_sub_bytes (state_bytes x)))) (state_bytes k) → eq_rounds dw n (state_bytes x) ≡ s → eq_rounds dw m (state_bytes y) ≡ s
unfolding eq_rounds add_round_key
rounds-less dw s n m x k y h f e g =
    ap (eq_rounds dw m)
    (e
    ∙ ap (λ (z : List ℕ). xorl (inv_mix_columns (inv_shift_rows (inv_sub_bytes (state_bytes x)))) z)
    (ap state_bytes f ∙ key-bytes dw n ∙ ap (λ (j : ℕ). serialised (round_key dw j)) h))
    ∙ ap (λ (j : ℕ). eq_rounds dw j (state_bytes x)) (sym h)
    ∙ g

pub rounds-none : (dw u s : List ℕ) (n : ℕ) → n ≡ 0 → eq_rounds dw n u ≡ s → u ≡ s
unfolding eq_rounds
rounds-none dw u s n e g = rw e at g
