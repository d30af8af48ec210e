-- RFC 8439 2.8's layout, read back from its end: the lengths stand there, and tell where associated data and text lie.
use mathlib.Core.Path.{◌≡◌, refl, sym, ap, ap₂, ◌∙◌}
use mathlib.Core.List.{List, ◌++◌, append_assoc}
use Prim.Native.Nat.{ℕ, ◌+◌, ◌-◌, ◌%◌, ◌^◌, ◌<◌, ◌≤◌}
use native.Mathlib.Omega.{arith}
use lib.Dec.{lit<}
use lib.ListN.{length, length-append, take, drop, replicate, length-replicate}
use lib.Seq.{sets, take_at, drop_at, take_all, drop-append-le}
use Rattle.base.specs.Lists.{part}
use Rattle.base.proofs.PartLaws.{sets-front, drop-replicate}
use Rattle.base.proofs.PickLaws.{no}
use Rattle.words.specs.Le.{num, le}
use Rattle.words.proofs.LeLaws.{num-le, length-le}
use Rattle.poly1305.specs.Poly1305.{poly1305}
use Rattle.keys.specs.declared.Lock.{Lock}
use Rattle.keys.specs.Tags.{pad16, laid_out, named, covered, LaidOutTold, LaidOutEven, TagNames}

length-pad16 : (l : List ℕ) → length (pad16 l) ≡ (16 - length l % 16) % 16
unfolding pad16
length-pad16 l = length-replicate ((16 - length l % 16) % 16) 0

-- the last 16 bytes, and the two lengths that they are
ends : List ℕ → List ℕ
ends m = drop (length m - 16) m

ad_of : List ℕ → List ℕ
ad_of m = take (num (take 8 (ends m))) m

text_of : List ℕ → List ℕ
text_of m = let n = num (take 8 (ends m)) in take (num (drop 8 (ends m))) (drop (n + (16 - n % 16) % 16) m)

abbrev lengths : List ℕ → List ℕ → List ℕ
lengths a t = le 8 (length a) ++ le 8 (length t)

module _ (a t : List ℕ) where
  length_lengths : length (lengths a t) ≡ 16
  length_lengths = length-append (le 8 (length a)) (le 8 (length t)) ∙ ap₂ (λ (x y : ℕ). x + y) (length-le 8 (length a)) (length-le 8 (length t))

  split : laid_out a t ≡ ((a ++ pad16 a) ++ (t ++ pad16 t)) ++ lengths a t
  unfolding laid_out
  split =
      ap (λ (l : List ℕ). (a ++ pad16 a) ++ l) (sym (append_assoc t (pad16 t) (lengths a t)))
      ∙ sym (append_assoc (a ++ pad16 a) (t ++ pad16 t) (lengths a t))

  ends_is : ends (laid_out a t) ≡ lengths a t
  unfolding ends
  ends_is =
      let before = (a ++ pad16 a) ++ (t ++ pad16 t) in
      let long : length (laid_out a t) ≡ length before + 16 = ap length split ∙ length-append before (lengths a t) ∙ ap (λ (k : ℕ). length before + k) length_lengths in
      let at : length before ≡ length (laid_out a t) - 16 = omega (arith, long) in
      ap (drop (length (laid_out a t) - 16)) split ∙ drop_at before (lengths a t) (length (laid_out a t) - 16) at

  ad_size : length a < 2 ^ 64 → num (take 8 (ends (laid_out a t))) ≡ length a
  ad_size h = ap (λ (l : List ℕ). num (take 8 l)) ends_is ∙ ap num (take_at (le 8 (length a)) (le 8 (length t)) 8 (length-le 8 (length a))) ∙ num-le 8 (length a) h

  text_size : length t < 2 ^ 64 → num (drop 8 (ends (laid_out a t))) ≡ length t
  text_size h = ap (λ (l : List ℕ). num (drop 8 l)) ends_is ∙ ap num (drop_at (le 8 (length a)) (le 8 (length t)) 8 (length-le 8 (length a))) ∙ num-le 8 (length t) h

  ad_back : length a < 2 ^ 64 → ad_of (laid_out a t) ≡ a
  unfolding ad_of laid_out
  ad_back h =
      let rest = t ++ (pad16 t ++ (le 8 (length a) ++ le 8 (length t))) in
      ap₂ (λ (k : ℕ) (l : List ℕ). take k l) (ad_size h) (append_assoc a (pad16 a) rest) ∙ take_at a (pad16 a ++ rest) (length a) refl

  text_back : length a < 2 ^ 64 → length t < 2 ^ 64 → text_of (laid_out a t) ≡ t
  unfolding text_of laid_out
  text_back ha ht =
      let tail = pad16 t ++ (le 8 (length a) ++ le 8 (length t)) in
      let n = length a + (16 - length a % 16) % 16 in
      let long : length (a ++ pad16 a) ≡ n = length-append a (pad16 a) ∙ ap (λ (k : ℕ). length a + k) (length-pad16 a) in
      let from : drop n (laid_out a t) ≡ t ++ tail = drop_at (a ++ pad16 a) (t ++ tail) n long in
      ap₂ (λ (k j : ℕ). take k (drop (j + (16 - j % 16) % 16) (laid_out a t))) (text_size ht) (ad_size ha)
      ∙ ap (take (length t)) from ∙ take_at t tail (length t) refl

pub laid_out-told : LaidOutTold
laid_out-told a b t u ha ht hb hu e =
    (sym (ad_back a t ha) ∙ ap ad_of e ∙ ad_back b u hb, sym (text_back a t ha ht) ∙ ap text_of e ∙ text_back b u hb hu)

pub laid_out_even : LaidOutEven
unfolding laid_out pad16 le
laid_out_even lock f size stored s e =
    let whole : length stored % 16 ≡ 0 = omega (arith, s.whole, e) in
    rw (whole, e) refl

-- nugget, flake and keycount, read back from what names them
number-back : (lock : Lock) (f : ℕ) → lock.number < 2 ^ 32 → num (take 4 (named lock f)) ≡ lock.number
unfolding le
number-back lock f h = num-le 4 lock.number h

flake-back : (lock : Lock) (f : ℕ) → f < 2 ^ 16 → num (part 4 2 (named lock f)) ≡ f
unfolding le
flake-back lock f h = num-le 2 f h

keycount-back : (lock : Lock) (f : ℕ) → lock.keycount < 2 ^ 64 → num (drop 6 (named lock f)) ≡ lock.keycount
unfolding le
keycount-back lock f h = num-le 8 lock.keycount h

short-named : (lock : Lock) (f : ℕ) → length (named lock f) < 2 ^ 64
unfolding le
short-named lock f = lit< tt

pub tag_names : TagNames
unfolding covered
tag_names a b f g stored other x y e =
    let here : covered a f stored ≡ laid_out (named a f) stored = no stored x.later refl in
    let there : covered b g other ≡ laid_out (named b g) other = no other y.later refl in
    let one = laid_out-told (named a f) (named b g) stored other (short-named a f) x.size (short-named b g) y.size (sym here ∙ e ∙ there) in
    record {
      nugget = sym (number-back a f x.nugget) ∙ ap (λ (l : List ℕ). num (take 4 l)) one.0 ∙ number-back b g y.nugget;
      flake = sym (flake-back a f x.flake) ∙ ap (λ (l : List ℕ). num (part 4 2 l)) one.0 ∙ flake-back b g y.flake;
      keycount = sym (keycount-back a f x.keycount) ∙ ap (λ (l : List ℕ). num (drop 6 l)) one.0 ∙ keycount-back b g y.keycount;
      stored = one.1;
    }

-- associated data laid into a block of zeros has its padding behind it
pub front_is : (ad : List ℕ) → 0 < length ad → length ad ≤ 16 → sets (replicate 16 0) 0 ad ≡ ad ++ pad16 ad
unfolding pad16
front_is ad some few =
    let left : 16 - length ad ≡ (16 - length ad % 16) % 16 = omega (arith, some, few) in
    sets-front (replicate 16 0) ad few ∙ ap (λ (l : List ℕ). ad ++ l) (drop-replicate (length ad) 16 0 ∙ ap (λ (k : ℕ). replicate k 0) left)

-- the end of a block of zeros is the padding of a text
back_is : (l text : List ℕ) (at : ℕ) → at ≡ (length text % 16 + 15) % 16 + 1 → length l ≡ 16 → part at (32 - at) (replicate 16 0 ++ l) ≡ pad16 text ++ l
unfolding pad16
back_is l text at e long =
    let left : 16 - at ≡ (16 - length text % 16) % 16 = omega (arith, e) in
    let cut : drop at (replicate 16 0 ++ l) ≡ replicate (16 - at) 0 ++ l = drop-append-le at (replicate 16 0) l (omega (arith, e)) ∙ ap (λ (x : List ℕ). x ++ l) (drop-replicate at 16 0) in
    let zeros : List ℕ = replicate (16 - at) 0 in
    let reach : length (zeros ++ l) ≤ 32 - at = omega (arith, e, length-append zeros l, length-replicate {A = ℕ} (16 - at) 0, long) in
    ap (take (32 - at)) cut ∙ take_all (32 - at) (zeros ++ l) reach ∙ ap (λ (k : ℕ). replicate k 0 ++ l) left

-- so a block of front, the text, and the end of a block of zeros with the lengths are what is laid out
pub laid_by_lem : (key ad text : List ℕ) (at : ℕ) {front back r : List ℕ} → front ≡ ad ++ pad16 ad → back ≡ replicate 16 0 ++ lengths ad text
    → at ≡ (length text % 16 + 15) % 16 + 1 → r ≡ poly1305 key (front ++ (text ++ part at (32 - at) back)) → r ≡ poly1305 key (laid_out ad text)
unfolding laid_out
laid_by_lem key ad text at ef eb ea er =
    let cut = ap (part at (32 - at)) eb ∙ back_is (lengths ad text) text at ea (length_lengths ad text) in
    er ∙ ap (poly1305 key) (ap₂ (λ (x y : List ℕ). x ++ (text ++ y)) ef cut)
