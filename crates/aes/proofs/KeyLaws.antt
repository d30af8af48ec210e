-- The key expansion, one word a turn.
use mathlib.Core.Path.{◌≡◌, refl, ap, ap₂, sym, ◌∙◌}
use mathlib.Core.List.{List, [], ◌∷◌, ◌++◌, append_assoc, append-nil}
use Prim.Native.Nat.{ℕ, zero, suc, ◌+◌, ◌-◌, ◌*◌, ◌/◌, ◌%◌, ◌^◌, ◌<◌, ◌≤◌}
use native.Mathlib.Omega.{arith}
use native.Mathlib.Numerals.{add-one}
use lib.ListN.{length, get_or, set, replicate, length-append, get_or-append}
use lib.Seq.{set_at}
use lib.Bits.{bit_xor}
use borrow.Author.Tests.{eq-eqb, ne_eqb}
use Rattle.base.specs.Lists.{tab}
use Rattle.base.proofs.PickLaws.{yes, no}
use Rattle.base.proofs.TabLaws.{length-tab}
use Rattle.words.specs.Le.{words_of}
use Rattle.words.specs.Word.{rotr}
use Rattle.field.specs.Field.{xtimes}
use Rattle.field.proofs.FieldLaws.{each}
use Rattle.aes.specs.Aes.{sub_word, rcon, temp_at, key_schedule, key_expansion}

all-rcon : tab 7 (λ j. 1 * 2 ^ j % 2 ^ 32) ≡ tab 7 (λ j. rcon (suc j))
unfolding tab rcon xtimes
all-rcon = refl

rcon-at : (i : ℕ) → 8 ≤ i → i < 60 → 1 * 2 ^ (i / 8 - 1) % 2 ^ 32 ≡ rcon (i / 8)
rcon-at i h l =
    let e : suc (i / 8 - 1) ≡ i / 8 = omega arith in
    each 7 (λ j. 1 * 2 ^ j % 2 ^ 32) (λ j. rcon (suc j)) all-rcon (i / 8 - 1) (omega arith) ∙ ap rcon e

pub temp_0 : (i temp : ℕ) {x y : ℕ} → 8 ≤ i → i < 60 → i % 8 ≡ 0 → x ≡ rotr 8 temp → y ≡ sub_word x
    → bit_xor y (1 * 2 ^ (i / 8 - 1) % 2 ^ 32) ≡ temp_at i temp
unfolding temp_at
temp_0 i temp h l e ex ey = sym (yes _ (eq-eqb (i % 8) 0 e) (sym (ap₂ bit_xor (ey ∙ ap sub_word ex) (rcon-at i h l))))

pub temp_4 : (i temp : ℕ) {y : ℕ} → (i % 8 ≡ 0 → ⊥) → i % 8 ≡ 4 → y ≡ sub_word temp → y ≡ temp_at i temp
unfolding temp_at
temp_4 i temp n e ey = ey ∙ sym (no _ (ne_eqb (i % 8) 0 n) (yes _ (eq-eqb (i % 8) 4 e) refl))

pub temp_n : (i temp : ℕ) → (i % 8 ≡ 0 → ⊥) → (i % 8 ≡ 4 → ⊥) → temp ≡ temp_at i temp
unfolding temp_at
temp_n i temp n m = sym (no _ (ne_eqb (i % 8) 0 n) (no _ (ne_eqb (i % 8) 4 m) refl))

pub length-words : (key : List ℕ) (n : ℕ) → length (key_schedule key n) ≡ n + 8
unfolding key_schedule words_of
length-words key zero = length-tab 8 _
length-words key (suc n) = length-append (key_schedule key n) _ ∙ rw (length-words key n) (omega arith)

-- one word more
pub words_more : (key : List ℕ) (n : ℕ) {w : List ℕ} {x : ℕ} → n < 52 → w ≡ key_schedule key n ++ replicate (52 - n) 0 → x ≡ temp_at (n + 8) (get_or w (n + 7) 0)
    → set w (n + 8) (bit_xor (get_or w n 0) x) ≡ key_schedule key (n + 1) ++ replicate (52 - (n + 1)) 0
unfolding key_schedule
words_more key n {w} {x} h e ex =
    let p = key_schedule key n in
    let long : length p ≡ n + 8 = length-words key n in
    let z : List ℕ = replicate (52 - (n + 1)) 0 in
    let left : 52 - n ≡ suc (52 - (n + 1)) = omega arith in
    let f : w ≡ p ++ (0 ∷ z) = rw left at e in
    let at : (i : ℕ) → i < n + 8 → get_or w i 0 ≡ get_or p i 0
    = λ i l. ap (λ (y : List ℕ). get_or y i 0) f ∙ get_or-append p (0 ∷ z) 0 i (rw long l) in
    let v : bit_xor (get_or w n 0) x ≡ bit_xor (get_or p n 0) (temp_at (n + 8) (get_or p (n + 7) 0))
    = ap₂ bit_xor (at n (omega arith)) (ex ∙ ap (temp_at (n + 8)) (at (n + 7) (omega arith))) in
    ap₂ (λ (y : List ℕ) (u : ℕ). set y (n + 8) u) f v
    ∙ set_at p 0 z (bit_xor (get_or p n 0) (temp_at (n + 8) (get_or p (n + 7) 0))) (n + 8) long
    ∙ sym (append_assoc p (bit_xor (get_or p n 0) (temp_at (n + 8) (get_or p (n + 7) 0)) ∷ []) z)
    ∙ ap (λ (m : ℕ). key_schedule key m ++ z) (sym (add-one n))

-- w₀ are the key's words and zeros; n words more stand in w
pub record Grown (w₀ w : List ℕ) (n : ℕ) : Type 0 where
  pub goes : (key : List ℕ) → w₀ ≡ words_of 8 key ++ replicate 52 0 → w ≡ key_schedule key n ++ replicate (52 - n) 0

pub grown-none : (w : List ℕ) → Grown w w 0
unfolding key_schedule
grown-none w = record { goes = λ key e. e }

pub grown_more : {w₀ : List ℕ} (w : List ℕ) (i : ℕ) {x : ℕ} → 8 ≤ i → Grown w₀ w (i - 8) → i < 60 → x ≡ temp_at i (get_or w (i - 1) 0)
    → Grown w₀ (set w i (bit_xor (get_or w (i - 8) 0) x)) (i + 1 - 8)
grown_more {w₀} w i {x} l g h ex =
    let n = i - 8 in
    let at : n + 8 ≡ i = omega arith in
    let before : i - 1 ≡ n + 7 = omega arith in
    let next : i + 1 - 8 ≡ n + 1 = omega arith in
    record { goes = λ key e. rw next (ap (λ (m : ℕ). set w m (bit_xor (get_or w n 0) x)) (sym at) ∙ words_more key n (omega arith) (g.goes key e) (ex ∙ ap₂ (λ (m p : ℕ). temp_at m (get_or w p 0)) (sym at) before)) }

pub grown-all : {w₀ w : List ℕ} (key : List ℕ) (n : ℕ) → Grown w₀ w n → n ≡ 52 → w₀ ≡ words_of 8 key ++ replicate 52 0 → w ≡ key_expansion key
unfolding key_expansion
grown-all {w₀} {w} key n g e h =
    let f : w ≡ key_schedule key 52 ++ replicate (52 - 52) 0 = rw e at (g.goes key h) in
    f ∙ append-nil (key_schedule key 52)
