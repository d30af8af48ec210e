-- Cells of the volume that don't meet: a store in one leaves the other.
use mathlib.Core.Path.{◌≡◌}
use mathlib.Core.Logic.{◌⊎◌, inl, inr, ⊎_elim}
use mathlib.Core.List.{List}
use Prim.Native.Nat.{ℕ, ◌+◌, ◌*◌, ◌<◌, ◌≤◌}
use native.Mathlib.Omega.{arith}
use lib.Dec.{ltb}
use lib.ListN.{length}
use lib.Seq.{sets}
use borrow.Author.Tests.{ltb-true, ltb-false}
use Rattle.base.specs.Lists.{part}
use Rattle.base.proofs.PickLaws.{told}
use Rattle.base.proofs.PartLaws.{part-sets-above, part-sets-below}
use Rattle.layout.specs.declared.Shape.{Shape}
use Rattle.layout.specs.Parts.{flakes_at, tag_at, flake_at}
use Rattle.layout.proofs.Places.{apart, index_told}

-- m bytes from a on and n bytes from b on share none
abbrev pub Apart : ℕ → ℕ → ℕ → ℕ → Type 0
Apart a m b n = (a + m ≤ b) ⊎ (b + n ≤ a)

pub part_apart : (at n : ℕ) (l : List ℕ) (a m : ℕ) (vs : List ℕ) → length vs ≡ m → Apart at n a m → part at n (sets l a vs) ≡ part at n l
part_apart at n l a m vs e h =
    ⊎_elim (λ low. part-sets-below at n l a vs low) (λ high. part-sets-above at n l a vs (omega (arith, e, high))) h

-- two numbers in their order
pub ordered : (i j : ℕ) → (i < j) ⊎ (j ≤ i)
ordered i j = ⊎_elim (λ e. inl (ltb-true i j e)) (λ e. inr (ltb-false i j e)) (told (ltb i j))

pub differ : (i j : ℕ) → (i ≡ j → ⊥) → (i < j) ⊎ (j < i)
differ i j h = ⊎_elim inl (λ high. ⊎_elim (λ low. inr low) (λ e. absurd (h (omega (arith, high, e)))) (ordered j i)) (ordered i j)

-- flakes at two places, by their numbers over all nuggets
cells_apart : (at w i j : ℕ) → (i ≡ j → ⊥) → Apart (at + i * w) w (at + j * w) w
cells_apart at w i j h = ⊎_elim (λ a. inl (omega (arith, apart w i j a))) (λ a. inr (omega (arith, apart w j i a))) (differ i j h)

-- a flake is another one if its nugget or its number differs
abbrev pub Other : ℕ → ℕ → ℕ → ℕ → Type 0
Other n f m g = (n ≡ m) → (f ≡ g) → ⊥

pub flakes_apart : (s : Shape) (n f m g : ℕ) → f < s.p → g < s.p → Other n f m g → Apart (flake_at s n f) s.f (flake_at s m g) s.f
flakes_apart s n f m g a b h =
    cells_apart (flakes_at s) s.f (n * s.p + f) (m * s.p + g) (λ e. let t = index_told s.p n f m g a b e in h t.0 t.1)

pub tags_apart : (s : Shape) (n f m g : ℕ) → f < s.p → g < s.p → Other n f m g → Apart (tag_at s n f) 16 (tag_at s m g) 16
tags_apart s n f m g a b h =
    ⊎_elim (λ q. inl (omega (arith, q))) (λ q. inr (omega (arith, q)))
    (differ (n * s.p + f) (m * s.p + g) (λ e. let t = index_told s.p n f m g a b e in h t.0 t.1))
