-- The flake of each byte of a range is touched, and what that makes of its nugget under a write.
use mathlib.Core.Path.{◌≡◌, refl, ◌∙◌}
use mathlib.Core.Bool.{true, false}
use mathlib.Core.Logic.{◌⊎◌, inl, inr}
use Prim.Native.Nat.{ℕ, ◌+◌, ◌<◌, ◌≤◌, max, min}
use native.Mathlib.Omega.{arith}
use lib.Dec.{eqb}
use borrow.Author.Tests.{lt-ltb, ne_eqb, eqb-true}
use Rattle.base.specs.Pick.{pick, both}
use Rattle.base.proofs.PickLaws.{both-on, both_left, both_right, clash, told}
use Rattle.layout.specs.declared.Shape.{Shape}
use Rattle.layout.specs.Spots.{spot_at, offset_at, capacity}
use Rattle.layout.proofs.Limits.{Limits}
use Rattle.layout.proofs.Places.{Inside, spot_inside, offset_spot}
use Rattle.records.specs.declared.Record.{Record}
use Rattle.records.specs.declared.Way.TheVariants.{Add, Rekey}
use Rattle.records.specs.Journal.{bit, share_none}
use Rattle.records.specs.Rule.{way_of, rekeys}
use Rattle.records.proofs.BitLaws.{bit-empty, share_none_bits}
use Rattle.records.proofs.MaskLaws.{bit_with}
use Rattle.nuggets.specs.Touched.{meets, touched_of}

module _ (s : Shape) (o len a : ℕ) (l : Limits s) (h : o ≤ a) (k : a < o + len) where
  pub spot_within : o + len ≤ capacity s → Inside s a
  spot_within fits = spot_inside s a (omega (arith, l.flakes)) (omega (arith, l.wide)) (omega (arith, fits))

  pub touched-bit : Inside s a → bit (touched_of s o len (spot_at s a).nugget) (spot_at s a).flake ≡ true
  unfolding touched_of meets
  touched-bit x =
      let n = (spot_at s a).nugget in
      let f = (spot_at s a).flake in
      let e : offset_at s n f (spot_at s a).byte ≡ a = offset_spot s a in
      let in-range : max o (offset_at s n f 0) < min (o + len) (offset_at s n f s.f) = omega (arith, e, x.byte_is) in
      bit_with s.p (meets s o len n) f ∙ both-on (lt-ltb f s.p x.flake_is) (lt-ltb _ _ in-range)

-- a set with a flake in it isn't empty
some-bit : (t f : ℕ) → bit t f ≡ true → t ≡ 0 → ⊥
some-bit t f on z = clash on (rw z (bit-empty f))

pub touched-some : (t f : ℕ) → bit t f ≡ true → eqb t 0 ≡ false
touched-some t f on = ne_eqb t 0 (some-bit t f on)

-- "If J and T share none and its epoch is the head's [..]. Otherwise the nugget is rekeyed"
pub way_rekeys : (r : Record) (t head f : ℕ) → bit t f ≡ true → (bit r.spent f ≡ true) ⊎ (r.epoch ≡ head → ⊥) → rekeys (way_of r t head) ≡ true
unfolding way_of
way_rekeys r t head f on why = rw (touched-some t f on) (go (told (both (share_none r.spent t) (eqb r.epoch head))) why)
  where
    go : (both (share_none r.spent t) (eqb r.epoch head) ≡ true) ⊎ (both (share_none r.spent t) (eqb r.epoch head) ≡ false)
        → (bit r.spent f ≡ true) ⊎ (r.epoch ≡ head → ⊥) → rekeys (pick (both (share_none r.spent t) (eqb r.epoch head)) (Add t) (Rekey t)) ≡ true
    go (inl e) (inl p) = absurd (clash (both-on p on) (share_none_bits r.spent t (both_left _ _ e) f))
    go (inl e) (inr q) = absurd (q (eqb-true r.epoch head (both_right (share_none r.spent t) _ e)))
    go (inr e) x = rw e refl
