-- What the limits say, as facts about the numbers.
use mathlib.Core.Path.{◌≡◌, refl, ◌∙◌}
use mathlib.Core.Bool.{Bool, true, false}
use mathlib.Core.Logic.{◌⊎◌, inl, inr}
use Prim.Native.Nat.{ℕ, ◌*◌, ◌%◌, ◌≤◌}
use native.Mathlib.Nat.{mul-le-mul, le_trans}
use native.Mathlib.Omega.{arith}
use lib.Dec.{leb, eqb, lit≤}
use borrow.Author.Tests.{leb-true, eqb-true}
use Rattle.base.specs.Pick.{pick}
use Rattle.base.proofs.PickLaws.{both_left, both_right, either-told}
use Rattle.layout.specs.Shape.{sized, known_version, known_cipher, known, in_limits, width_of, within, leaves}
use Rattle.layout.proofs.Height.{leaves-least, leaves_enough, leaves-some}
use Rattle.layout.specs.declared.Shape.{Shape}
use mathlib.Core.List.{List}
use Rattle.layout.specs.Shaped.{Shaped}

pub record Limits (s : Shape) : Type 0 where
  pub some : 1 ≤ s.n
  pub few : s.n ≤ 16384
  pub flakes : 1 ≤ s.p
  pub narrow : s.p ≤ 64
  pub wide : 64 ≤ s.f
  pub short : s.f ≤ 4096
  pub whole : s.f % 64 ≡ 0
  pub records : s.n * width_of s ≤ 425984

-- what the code's arithmetic has to know of a record's width
pub width-le : (s : Shape) → width_of s ≤ 26
unfolding width_of
width-le s = go (eqb s.version 1)
  where
    go : (b : Bool) → pick b 18 26 ≤ 26
    go true = omega arith
    go false = omega arith

pub width_ge : (s : Shape) → 18 ≤ width_of s
unfolding width_of
width_ge s = go (eqb s.version 1)
  where
    go : (b : Bool) → 18 ≤ pick b 18 26
    go true = omega arith
    go false = omega arith

limits_sized : (s : Shape) → sized s ≡ true → Limits s
unfolding sized
limits_sized s e =
    let e₁ = both_right (leb 1 s.n) _ e in
    let e₂ = both_right (leb s.n 16384) _ e₁ in
    let e₃ = both_right (leb 1 s.p) _ e₂ in
    let e₄ = both_right (leb s.p 64) _ e₃ in
    let e₅ = both_right (leb 64 s.f) _ e₄ in
    record {
      some = leb-true 1 s.n (both_left _ _ e);
      few = leb-true s.n 16384 (both_left _ _ e₁);
      flakes = leb-true 1 s.p (both_left _ _ e₂);
      narrow = leb-true s.p 64 (both_left _ _ e₃);
      wide = leb-true 64 s.f (both_left _ _ e₄);
      short = leb-true s.f 4096 (both_left _ _ e₅);
      whole = eqb-true (s.f % 64) 0 (both_right (leb s.f 4096) _ e₅);
      records = mul-le-mul (leb-true s.n 16384 (both_left _ _ e₁)) (width-le s);
    }

pub limits : (s : Shape) → in_limits s ≡ true → Limits s
unfolding in_limits
limits s e = limits_sized s (both_left (sized s) (known s) e)

-- a number of a shape in limits is itself, and one of a shape out of limits is 0
pub inside : (s : Shape) {x : ℕ} → in_limits s ≡ true → within s x ≡ x
inside s e = rw e refl

pub outside : (s : Shape) (x : ℕ) → in_limits s ≡ false → within s x ≡ 0
outside s x e = rw e refl

-- products of bounded numbers are bounded
module _ (s : Shape) (l : Limits s) where
  pub count-le : s.n * s.p ≤ 1048576
  count-le = mul-le-mul l.few l.narrow

  pub capacity-le : s.n * s.p * s.f ≤ 4294967296
  capacity-le = mul-le-mul count-le l.short

  pub leaves-le : leaves s.n ≤ 16384
  leaves-le = leaves-least 14 s.n (lit≤ tt) l.few

-- numbers of a shape: all that the code's arithmetic has to know
pub record Small (s : Shape) : Type 0 where
  pub some_leaves : 1 ≤ leaves s.n
  pub few_leaves : leaves s.n ≤ 16384
  pub enough_leaves : s.n ≤ leaves s.n
  pub few_nuggets : s.n ≤ 16384
  pub few_flakes : s.p ≤ 64
  pub few_tags : s.n * s.p ≤ 1048576
  pub few_records : s.n * width_of s ≤ 425984
  pub narrow_record : width_of s ≤ 26
  pub wide_record : 18 ≤ width_of s

pub small : (s : Shape) → Limits s → Small s
small s l =
    record {
      some_leaves = leaves-some s.n;
      few_leaves = leaves-le s l;
      enough_leaves = leaves_enough s.n (le_trans l.few (lit≤ tt));
      few_nuggets = l.few;
      few_flakes = l.narrow;
      few_tags = count-le s l;
      few_records = l.records;
      narrow_record = width-le s;
      wide_record = width_ge s;
    }

pub lent_small : {s : Shape} {v : List ℕ} → Shaped s v → Small s
lent_small {s} l = small s (limits s l.limited)

-- a number of a shape in limits
pub placed : (s : Shape) {x y : ℕ} → in_limits s ≡ true → x ≡ within s y → x ≡ y
placed s lim e = e ∙ inside s lim

-- a version that there is has two bytes
pub version_le : (version : ℕ) → known_version version ≡ true → version ≤ 2
unfolding known_version
version_le version e = go (either-told (eqb version 1) (eqb version 2) e)
  where
    go : (eqb version 1 ≡ true) ⊎ (eqb version 2 ≡ true) → version ≤ 2
    go (inl d) = omega (arith, eqb-true version 1 d)
    go (inr d) = omega (arith, eqb-true version 2 d)

-- and a cipher that there is leaves the state its place below
pub cipher_is : (cipher : ℕ) → known_cipher cipher ≡ true → (cipher ≡ 0) ⊎ (cipher ≡ 16)
unfolding known_cipher
cipher_is cipher e = go (either-told (eqb cipher 0) (eqb cipher 16) e)
  where
    go : (eqb cipher 0 ≡ true) ⊎ (eqb cipher 16 ≡ true) → (cipher ≡ 0) ⊎ (cipher ≡ 16)
    go (inl d) = inl (eqb-true cipher 0 d)
    go (inr d) = inr (eqb-true cipher 16 d)

pub cipher-le : (cipher : ℕ) → known_cipher cipher ≡ true → cipher ≤ 16
cipher-le cipher e = go (cipher_is cipher e)
  where
    go : (cipher ≡ 0) ⊎ (cipher ≡ 16) → cipher ≤ 16
    go (inl z) = omega (arith, z)
    go (inr z) = omega (arith, z)

-- a shape in limits has such ones
pub version_known : (s : Shape) → in_limits s ≡ true → known_version s.version ≡ true
unfolding in_limits known
version_known s e = both_left (known_version s.version) (known_cipher s.cipher) (both_right (sized s) (known s) e)

pub cipher-known : (s : Shape) → in_limits s ≡ true → known_cipher s.cipher ≡ true
unfolding in_limits known
cipher-known s e = both_right (known_version s.version) (known_cipher s.cipher) (both_right (sized s) (known s) e)

-- a record has 18 bytes or 26
pub width_is : (s : Shape) → (width_of s ≡ 18) ⊎ (width_of s ≡ 26)
unfolding width_of
width_is s = go (eqb s.version 1)
  where
    go : (b : Bool) → (◌≡◌ {A = ℕ} (pick b 18 26) 18) ⊎ (◌≡◌ {A = ℕ} (pick b 18 26) 26)
    go true = inl refl
    go false = inr refl
