-- A round on four words is the round on sixteen bytes.
use mathlib.Core.Path.{◌≡◌, refl, ap, ap₂, sym, ◌∙◌}
use mathlib.Core.List.{List}
use Prim.Native.Nat.{ℕ, zero, suc, ◌+◌, ◌-◌, ◌*◌, ◌/◌, ◌%◌, ◌<◌, ◌≤◌}
use native.Mathlib.Omega.{arith}
use lib.Bits.{bit_xor}
use lib.ListN.{get_or}
use Rattle.base.specs.Lists.{tab}
use Rattle.words.specs.Le.{num, le, serialised}
use Rattle.words.specs.Xor.{xorl}
use Rattle.field.specs.Field.{matrix}
use Rattle.field.specs.Sbox.{sbox}
use Rattle.field.proofs.TableLaws.{sbox-lt}
use Rattle.aes.specs.Aes.{sub_bytes, shift_rows, by_columns, mix_columns, round_key, add_round_key, sub_word, rounds}
use Rattle.aes.specs.Code.{state_bytes, state_columns, sum_of, key_columns, looked_up, rows_by}
use Rattle.aes.specs.Tables.{round_table}
use Rattle.aes.specs.declared.Columns.{Columns}
use Rattle.aes.proofs.WordLaws.{le-xor}
use Rattle.aes.proofs.LookLaws.{entry, column_keyed, rows-keyed}
use Rattle.aes.proofs.TableLaws.{round-at, second_at_lem}
use Rattle.aes.proofs.StateLaws.{State, app, columns-back}

pub sum-bytes : (s k : Columns) → state_bytes (sum_of s k) ≡ xorl (state_bytes s) (state_bytes k)
unfolding state_bytes serialised xorl le
sum-bytes s k =
    ap₂ app (le-xor 4 s.a k.a) (ap₂ app (le-xor 4 s.b k.b) (ap₂ app (le-xor 4 s.c k.c) (ap₂ app (le-xor 4 s.d k.d) refl)))

pub key-bytes : (w : List ℕ) (n : ℕ) → state_bytes (key_columns w n) ≡ serialised (round_key w n)
unfolding state_bytes round_key
key-bytes w n = refl

module _ (t : List ℕ) (whole : t ≡ round_table) where
  has : (x : ℕ) → x < 256 → get_or t x 0 ≡ entry 2 1 1 3 (sbox x)
  has x h = ap (λ (l : List ℕ). get_or l x 0) whole ∙ round-at x h

  second : (x : ℕ) → x < 256 → get_or t x 0 / 256 % 256 ≡ sbox x
  second x h = ap (λ (l : List ℕ). get_or l x 0 / 256 % 256) whole ∙ second_at_lem x h

  column : (a b c d key : ℕ) {p : ℕ} → p ≡ looked_up t a b c d
      → le 4 (bit_xor p key) ≡ xorl (matrix 2 1 1 3 (sbox (a % 256)) (sbox (b / 256 % 256)) (sbox (c / 256 / 256 % 256)) (sbox (d / 256 / 256 / 256 % 256))) (le 4 key)
  column = column_keyed 2 1 1 3 t sbox has sbox-lt

  -- four columns are the round
  pub round_code : (s k : Columns) {p q r v : ℕ} → p ≡ looked_up t s.a s.b s.c s.d → q ≡ looked_up t s.b s.c s.d s.a
      → r ≡ looked_up t s.c s.d s.a s.b → v ≡ looked_up t s.d s.a s.b s.c
      → state_bytes (record { a = bit_xor p k.a; b = bit_xor q k.b; c = bit_xor r k.c; d = bit_xor v k.d })
      ≡ xorl (mix_columns (shift_rows (sub_bytes (state_bytes s)))) (state_bytes k)
  unfolding state_bytes serialised by_columns matrix shift_rows sub_bytes xorl tab le
  round_code s k ep eq er ev =
      ap₂ app (column s.a s.b s.c s.d k.a ep)
      (ap₂ app (column s.b s.c s.d s.a k.b eq)
      (ap₂ app (column s.c s.d s.a s.b k.c er) (ap₂ app (column s.d s.a s.b s.c k.d ev) refl)))

  -- the bytes that the code of a column's rows adds up
  pub rows_code : (a b c d : ℕ)
      → get_or t (a % 256) 0 / 256 % 256
      + 256 * (get_or t (b / 256 % 256) 0 / 256 % 256
      + 256 * (get_or t (c / 256 / 256 % 256) 0 / 256 % 256 + 256 * (get_or t (d / 256 / 256 / 256 % 256) 0 / 256 % 256)))
      ≡ rows_by sbox a b c d
  unfolding rows_by num
  rows_code a b c d =
      rw (
        second (a % 256) (omega arith),
        second (b / 256 % 256) (omega arith),
        second (c / 256 / 256 % 256) (omega arith),
        second (d / 256 / 256 / 256 % 256) (omega arith),
      ) (omega arith)

pub last_round_code : (s k : Columns) {p q r v : ℕ} → p ≡ rows_by sbox s.a s.b s.c s.d → q ≡ rows_by sbox s.b s.c s.d s.a
    → r ≡ rows_by sbox s.c s.d s.a s.b → v ≡ rows_by sbox s.d s.a s.b s.c
    → state_bytes (record { a = bit_xor p k.a; b = bit_xor q k.b; c = bit_xor r k.c; d = bit_xor v k.d })
    ≡ xorl (shift_rows (sub_bytes (state_bytes s))) (state_bytes k)
unfolding state_bytes serialised shift_rows sub_bytes xorl tab le
last_round_code s k ep eq er ev =
    ap₂ app (rows-keyed sbox sbox-lt s.a s.b s.c s.d k.a ep)
    (ap₂ app (rows-keyed sbox sbox-lt s.b s.c s.d s.a k.b eq)
    (ap₂ app (rows-keyed sbox sbox-lt s.c s.d s.a s.b k.c er)
    (ap₂ app (rows-keyed sbox sbox-lt s.d s.a s.b s.c k.d ev) refl)))

pub sub_word_code : (x : ℕ) → rows_by sbox x x x x ≡ sub_word x
unfolding rows_by sub_word tab le
sub_word_code x = refl

-- one round more
pub rounds_more : (w s : List ℕ) (n : ℕ) (x k : Columns) {r : List ℕ} → 1 ≤ n → k ≡ key_columns w n
    → r ≡ xorl (mix_columns (shift_rows (sub_bytes (state_bytes x)))) (state_bytes k) → state_bytes x ≡ rounds w (n - 1) s → r ≡ rounds w (n + 1 - 1) s
unfolding rounds add_round_key
rounds_more w s zero x k l f e h = absurd (omega arith)
rounds_more w s (suc n) x k l f e h =
    let now : suc n - 1 ≡ n = omega arith in
    let next : suc n + 1 - 1 ≡ suc n = omega arith in
    e
    ∙ ap₂ (λ (y z : List ℕ). xorl (mix_columns (shift_rows (sub_bytes y))) z) (h ∙ ap (λ (m : ℕ). rounds w m s) now) (ap state_bytes f ∙ key-bytes w (suc n))
    ∙ ap (λ (m : ℕ). rounds w m s) (sym next)

-- the whole cipher, either way: key m, rounds, a last round with key n
pub cipher_code : (middle last : List ℕ → List ℕ) (w b : List ℕ) (m n : ℕ) (s k x y l z : Columns) → State b → s ≡ state_columns b → k ≡ key_columns w m
    → x ≡ sum_of s k → state_bytes y ≡ middle (state_bytes x) → l ≡ key_columns w n → state_bytes z ≡ xorl (last (state_bytes y)) (state_bytes l)
    → state_bytes z ≡ add_round_key w n (last (middle (add_round_key w m b)))
unfolding add_round_key
cipher_code middle last w b m n s k x y l z good es ek ex ey el ez =
    let first : xorl (state_bytes s) (state_bytes k) ≡ xorl b (serialised (round_key w m))
    = ap₂ xorl (ap state_bytes es ∙ columns-back b good) (ap state_bytes ek ∙ key-bytes w m) in
    ez
    ∙ ap₂ (λ (p q : List ℕ). xorl (last p) q) (ey ∙ ap middle (ap state_bytes ex ∙ sum-bytes s k ∙ first)) (ap state_bytes el ∙ key-bytes w n)
