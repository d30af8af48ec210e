-- One turn of the test of flakes, by what is left to do; and the tests of a read.
use mathlib.Core.Path.{◌≡◌, refl, sym, ap, ◌∙◌}
use mathlib.Core.Bool.{Bool, true, false}
use mathlib.Core.List.{List}
use Prim.Native.Nat.{ℕ, suc, ◌+◌, ◌-◌, ◌<◌, ◌≤◌}
use native.Mathlib.Numerals.{add-one}
use native.Mathlib.Omega.{arith}
use lib.Bits.{bit_and}
use Rattle.base.specs.Lists.{part, same}
use Rattle.base.proofs.PickLaws.{yes, no}
use Rattle.layout.specs.declared.Shape.{Shape}
use Rattle.layout.specs.Parts.{tag_at, flake_at}
use Rattle.answers.specs.Answer.{Answer}
use Rattle.answers.specs.Answer as A
use Rattle.answers.specs.declared.Place.TheVariants as P
use Rattle.answers.specs.Numbers.{accepts}
use Rattle.records.specs.declared.Record.{Record}
use Rattle.records.specs.Journal.{bit}
use Rattle.keys.specs.Tags.{tag_of}
use Rattle.keys.specs.declared.Lock.{Lock}
use Rattle.drive.specs.declared.Drive.{Drive}
use Rattle.drive.specs.Drive.{shape_of}
use Rattle.nuggets.specs.declared.Nugget.{Nugget}
use Rattle.nuggets.specs.Nugget.{secret_for, lock_by, nugget_of}
use Rattle.nuggets.specs.Tests.{good_flake, passes, flakes_up, flakes_tested, path_for, nugget_read}
use Rattle.records.specs.Record.{record_of}

module _ (s : Shape) (v : List ℕ) (g : Nugget) where
  -- the tag compared with the one that the bytes at these places give
  pub good_is : (f at tag : ℕ) {made : List ℕ} {r : Bool} → r ≡ same (part tag (tag + 16 - tag) v) made
      → made ≡ tag_of g.lock f (part at (at + s.f - at) v) → at ≡ flake_at s g.lock.number f → tag ≡ tag_at s g.lock.number f → r ≡ good_flake s v g f
  unfolding good_flake
  good_is f at tag e m p q =
      let a : at + s.f - at ≡ s.f = omega arith in
      let b : tag + 16 - tag ≡ 16 = omega arith in
      e ∙ rw (m, a, b, p, q)

  module _ (mask : ℕ) where
    pub passes_in : (f : ℕ) {r : Bool} → bit mask f ≡ true → r ≡ good_flake s v g f → r ≡ passes s v g mask f
    unfolding passes
    passes_in f h e = e ∙ sym (yes _ h refl)

    pub passes_out : (f : ℕ) → bit mask f ≡ false → true ≡ passes s v g mask f
    unfolding passes
    passes_out f h = sym (no _ h refl)

    pub up-on : (p f : ℕ) → f < p → passes s v g mask f ≡ true → flakes_up s v g mask (p - (f + 1)) (f + 1) ≡ flakes_up s v g mask (p - f) f
    unfolding flakes_up
    up-on p f h e = let k : p - f ≡ suc (p - (f + 1)) = omega arith in rw (k, add-one f) (sym (yes _ e refl))

    pub up_off : (p f : ℕ) → f < p → passes s v g mask f ≡ false → A.Altered (P.Flake g.lock.number f) ≡ flakes_up s v g mask (p - f) f
    unfolding flakes_up
    up_off p f h e = let k : p - f ≡ suc (p - (f + 1)) = omega arith in rw k (sym (no _ e refl))

    pub up_end : (p f : ℕ) → p ≤ f → A.Accepted ≡ flakes_up s v g mask (p - f) f
    unfolding flakes_up
    up_end p f h = let k : p - f ≡ 0 = omega arith in rw k

    pub up_start : flakes_up s v g mask (s.p - 0) 0 ≡ flakes_tested s v g mask
    unfolding flakes_tested
    up_start = let k : s.p - 0 ≡ s.p = omega arith in rw k

module _ (d : Drive) (v : List ℕ) (n : ℕ) where
  pub nugget_is : {s : Shape} {r : Record} {secret : List ℕ} {lock : Lock} → s ≡ shape_of d → r ≡ record_of s v n → secret ≡ secret_for d r.epoch
      → lock ≡ lock_by s d.salt secret n r.keycount → record { lock = lock; held = r.held } ≡ nugget_of d v n
  nugget_is eh er es el = rw (el, es, er, eh) refl

  pub read-on : (touched : ℕ) {a r : Answer} {s : Shape} {g : Nugget} → a ≡ path_for d v n → accepts a ≡ true → s ≡ shape_of d → g ≡ nugget_of d v n
      → r ≡ flakes_tested s v g (bit_and g.held touched) → r ≡ nugget_read d v n touched
  unfolding nugget_read
  read-on touched {g = g} e h es eg er =
      er
      ∙ ap (λ (x : Shape). flakes_tested x v g (bit_and g.held touched)) es
      ∙ ap (λ (x : Nugget). flakes_tested (shape_of d) v x (bit_and x.held touched)) eg
      ∙ sym (yes _ (ap accepts (sym e) ∙ h) refl)

  pub read_off : (touched : ℕ) {a : Answer} → a ≡ path_for d v n → accepts a ≡ false → a ≡ nugget_read d v n touched
  unfolding nugget_read
  read_off touched e h = e ∙ sym (no _ (ap accepts (sym e) ∙ h) refl)
