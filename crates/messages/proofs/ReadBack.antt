-- A message is read back from its bytes, so no two have the same.
use mathlib.Core.Path.{◌≡◌, refl, sym, ap, ap₂, ◌∙◌}
use mathlib.Core.Bool.{Bool, true, false}
use mathlib.Core.Logic.{◌⊎◌, inl, inr}
use mathlib.Core.List.{List, [], ◌∷◌, ◌++◌}
use Prim.Native.Nat.{ℕ, ◌+◌, ◌%◌, ◌^◌, ◌<◌}
use native.Mathlib.Omega.{arith}
use lib.Dec.{eqb}
use lib.ListN.{length, length-append, get_or, take, drop}
use lib.Seq.{take-append_seam, drop-append_seam}
use Rattle.base.specs.Pick.{pick, either}
use Rattle.base.proofs.PickLaws.{yes, no}
use Rattle.words.specs.Le.{num, le}
use Rattle.words.proofs.LeLaws.{num-le, length-le}
use Rattle.messages.specs.Messages.{letter_n, letter_f, letter_g, letter_o, letter_h, letter_l, nugget_message, tag_message, is_first, tag_letter}
use Rattle.messages.specs.OneMessage.{Message, for_nugget, for_tag, for_check, for_seal, for_leaf, for_inner, bytes_of, Wide, OneMessage, VersionsApart}

-- the first k bytes, and those behind them
front : (k : ℕ) (a b : List ℕ) → length a ≡ k → take k (a ++ b) ≡ a
front k a b e = rw (← e) (take-append_seam a b)

rest : (k : ℕ) (a b : List ℕ) → length a ≡ k → drop k (a ++ b) ≡ b
rest k a b e = rw (← e) (drop-append_seam a b)

-- the bytes of a leaf's record, by the length of what follows its letter: 4 + 18 or 4 + 26, and 16 for each tag
record_width : ℕ → ℕ
record_width size = pick (eqb (size % 16) 6) 18 26

width-told : (bytes tags : List ℕ) → (length bytes ≡ 18) ⊎ (length bytes ≡ 26) → length tags % 16 ≡ 0 → record_width (4 + (length bytes + length tags)) ≡ length bytes
unfolding record_width
width-told bytes tags (inl e) h = let q : (4 + (18 + length tags)) % 16 ≡ 6 = omega arith in rw (e, q) refl
width-told bytes tags (inr e) h = let q : (4 + (26 + length tags)) % 16 ≡ 14 = omega arith in rw (e, q) refl

-- by the letter, and then by the widths
told : ℕ → List ℕ → Message
told letter l =
    pick (eqb letter letter_n) (for_nugget (take 16 l) (num (drop 16 l)))
    (pick (either (eqb letter letter_f) (eqb letter letter_g)) (for_tag letter (num (take 2 l)) (num (drop 2 l)))
    (pick (eqb letter letter_o) (for_check (take 16 l) (num (drop 16 l)))
    (pick (eqb letter letter_h) (for_seal (take 72 l) (drop 72 l))
    (pick (eqb letter letter_l) (for_leaf (num (take 4 l)) (take (record_width (length l)) (drop 4 l)) (drop (record_width (length l)) (drop 4 l)))
    (for_inner (take 32 l) (drop 32 l))))))

tag_key-told : (letter : ℕ) (l : List ℕ) → (letter ≡ letter_f) ⊎ (letter ≡ letter_g) → told letter l ≡ for_tag letter (num (take 2 l)) (num (drop 2 l))
unfolding told
tag_key-told letter l (inl e) = rw e refl
tag_key-told letter l (inr e) = rw e refl

reading_back : List ℕ → Message
reading_back [] = for_inner [] []
reading_back (letter ∷ l) = told letter l

read_back : (m : Message) → Wide m → reading_back (bytes_of m) ≡ m
unfolding Wide bytes_of reading_back told
read_back (for_nugget salt n) w = ap₂ for_nugget (front 16 salt (le 4 n) w.0) (ap num (rest 16 salt (le 4 n) w.0) ∙ num-le 4 n w.1)
read_back (for_tag letter f k) w =
    let flake = ap num (front 2 (le 2 f) (le 8 k) (length-le 2 f)) ∙ num-le 2 f w.1 in
    let keycount = ap num (rest 2 (le 2 f) (le 8 k) (length-le 2 f)) ∙ num-le 8 k w.2 in
    tag_key-told letter (le 2 f ++ le 8 k) w.0 ∙ ap₂ (for_tag letter) flake keycount
read_back (for_check salt epoch) w = ap₂ for_check (front 16 salt (le 2 epoch) w.0) (ap num (rest 16 salt (le 2 epoch) w.0) ∙ num-le 2 epoch w.1)
read_back (for_seal head node) w = ap₂ for_seal (front 72 head node w) (rest 72 head node w)
read_back (for_leaf n bytes tags) w =
    let behind = rest 4 (le 4 n) (bytes ++ tags) (length-le 4 n) in
    let number = ap num (front 4 (le 4 n) (bytes ++ tags) (length-le 4 n)) ∙ num-le 4 n w.0 in
    let size : length (le 4 n ++ (bytes ++ tags)) ≡ 4 + (length bytes + length tags) = simp (length-append, length-le) in
    let wide : record_width (length (le 4 n ++ (bytes ++ tags))) ≡ length bytes = ap record_width size ∙ width-told bytes tags w.1 w.2 in
    let entry = ap₂ (λ (k : ℕ) (l : List ℕ). take k l) wide behind ∙ front (length bytes) bytes tags refl in
    let others = ap₂ (λ (k : ℕ) (l : List ℕ). drop k l) wide behind ∙ rest (length bytes) bytes tags refl in
    λ i. for_leaf (number i) (entry i) (others i)
read_back (for_inner left right) w = ap₂ for_inner (front 32 left right w) (rest 32 left right w)

pub one-message : OneMessage
one-message a b wa wb e = sym (read_back a wa) ∙ ap reading_back e ∙ read_back b wb

-- so the nugget is told by a nugget key's message, and flake and keycount by a tag key's
pub nugget_told_lem : (salt : List ℕ) (n m : ℕ) → length salt ≡ 16 → n < 2 ^ 32 → m < 2 ^ 32 → nugget_message salt n ≡ nugget_message salt m → n ≡ m
unfolding Wide bytes_of
nugget_told_lem salt n m long a b e =
    let one : for_nugget salt n ≡ for_nugget salt m = one-message (for_nugget salt n) (for_nugget salt m) (long, a) (long, b) e in cc

-- in either version
tag_letter_lem : (version : ℕ) → (tag_letter version ≡ letter_f) ⊎ (tag_letter version ≡ letter_g)
unfolding tag_letter
tag_letter_lem version = go (is_first version)
  where
    go : (b : Bool) → (pick b letter_f letter_g ≡ letter_f) ⊎ (pick b letter_f letter_g ≡ letter_g)
    go true = inl refl
    go false = inr refl

pub tag-told : (version f g k l : ℕ) → f < 2 ^ 16 → g < 2 ^ 16 → k < 2 ^ 64 → l < 2 ^ 64
    → tag_message (tag_letter version) f k ≡ tag_message (tag_letter version) g l → (f ≡ g) × (k ≡ l)
unfolding Wide bytes_of
tag-told version f g k l a b c d e =
    let letter = tag_letter version in
    let known = tag_letter_lem version in
    let one : for_tag letter f k ≡ for_tag letter g l = one-message (for_tag letter f k) (for_tag letter g l) (known, a, c) (known, b, d) e in (cc, cc)

pub versions_apart : VersionsApart
unfolding tag_letter
versions_apart first later f g k l a b e =
    let letters : letter_f ≡ letter_g =
    sym (yes letter_g a refl) ∙ ap (λ (m : List ℕ). get_or m 0 0) e ∙ no letter_f b refl in omega (arith, letters)
