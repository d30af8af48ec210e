-- From all nuggets to those that a range meets: a nugget outside it is idle, and idle nuggets change nothing.
use mathlib.Core.Path.{◌≡◌, refl, sym, ◌∙◌, ap}
use mathlib.Core.Bool.{Bool, true, false}
use mathlib.Core.Logic.{◌⊎◌, inl, inr}
use mathlib.Core.List.{List, append-nil}
use Prim.Native.Nat.{ℕ, zero, suc, ◌+◌, ◌-◌, ◌*◌, ◌/◌, ◌<◌, ◌≤◌, max, min}
use native.Mathlib.Nat.{le-div_iff_mul-le, div-lt_iff_lt-mul, mul-le-mul_right}
use native.Mathlib.Omega.{arith}
use borrow.Author.Tests.{ltb-true, eqb-true, eqb-false}
use lib.Dec.{ltb, eqb}
use Rattle.base.specs.Pick.{pick, both}
use Rattle.base.proofs.PickLaws.{both_left, both_right, alike, clash, told, yes, no}
use Rattle.layout.specs.declared.Shape.{Shape}
use Rattle.layout.specs.Spots.{spot_at, offset_at}
use Rattle.layout.proofs.Limits.{Limits}
use Rattle.answers.specs.Answer.{Answer}
use Rattle.answers.specs.Answer as A
use Rattle.answers.specs.Numbers.{accepts}
use Rattle.answers.specs.Stages.{and_then}
use Rattle.answers.proofs.StageLaws.{goes_on, stops, accepted_is}
use Rattle.records.specs.declared.Record.{Record}
use Rattle.records.specs.declared.Way.{Way}
use Rattle.records.specs.declared.Way.TheVariants.{Idle, Add, Rekey}
use Rattle.records.specs.Journal.{share_none}
use Rattle.records.specs.Rule.{way_of}
use Rattle.records.specs.Listing.{pads_to}
use Rattle.records.proofs.BitLaws.{same_bits, bit-empty}
use Rattle.records.proofs.MaskLaws.{bit_with}
use Rattle.records.proofs.RuleLaws.{way_idle}
use Rattle.records.proofs.ListingLaws.{pads-idle}
use Rattle.drive.specs.declared.Drive.{Drive}
use Rattle.drive.specs.Drive.{shape_of}
use Rattle.nuggets.specs.Touched.{meets, touched_of}
use Rattle.nuggets.proofs.TouchLaws.{touched_none}
use Rattle.changes.specs.Change.{idles, nugget_change, tested_to, marked, marked_to, tended, tended_to}
use Rattle.changes.specs.Write.{write_way}
use Rattle.records.specs.Record.{record_of}

-- a step by step account that stands still from a on
pub still : {A : Type 0} (f : ℕ → A) (a k : ℕ) → ((m : ℕ) → a ≤ m → m < a + k → f (suc m) ≡ f m) → f (a + k) ≡ f a
still f a zero h = let e : a + 0 ≡ a = omega arith in ap f e
still f a (suc k) h =
    let e : a + suc k ≡ suc (a + k) = omega arith in
    ap f e ∙ h (a + k) (omega arith) (omega arith) ∙ still f a k (λ m p q. h m p (omega (arith, q)))

-- the same between two numbers
pub still_to : {A : Type 0} (f : ℕ → A) (a b : ℕ) → a ≤ b → ((m : ℕ) → a ≤ m → m < b → f (suc m) ≡ f m) → f b ≡ f a
still_to f a b h g =
    let e : a + (b - a) ≡ b = omega arith in
    ap f (sym e) ∙ still f a (b - a) (λ m p q. g m p (omega (arith, q, e)))

-- the nuggets before that of the first byte, and behind that of the last, have no flake touched
module _ (s : Shape) (o len n : ℕ) (l : Limits s) where
  off_below : (f : ℕ) → n < (spot_at s o).nugget → f < s.p → meets s o len n f ≡ true → ⊥
  unfolding meets
  off_below f h a e =
      let inside : max o (offset_at s n f 0) < min (o + len) (offset_at s n f s.f) = ltb-true (max o (offset_at s n f 0)) (min (o + len) (offset_at s n f s.f)) e in
      let low : o < (n * s.p + f + 1) * s.f = omega (arith, inside) in
      let p : 0 < s.p = omega (arith, l.flakes) in
      let z : 0 < s.f = omega (arith, l.wide) in
      let flakes : (n + 1) * s.p ≤ o / s.f = (le-div_iff_mul-le p).0 (omega (arith, h)) in
      let bytes : (n + 1) * s.p * s.f ≤ o = (le-div_iff_mul-le z).0 flakes in
      let most : n * s.p + f + 1 ≤ (n + 1) * s.p = omega (arith, a) in
      omega (arith, low, bytes, mul-le-mul_right s.f most)

  pub none_below : n < (spot_at s o).nugget → touched_of s o len n ≡ 0
  unfolding touched_of
  none_below h =
      same_bits _ _ (λ f.
      bit_with s.p (meets s o len n) f
      ∙ alike (both (ltb f s.p) (meets s o len n f)) false
      (λ yes. absurd (off_below f h (ltb-true f s.p (both_left _ _ yes)) (both_right (ltb f s.p) _ yes)))
      (λ z. absurd (clash z refl))
      ∙ sym (bit-empty f))

  pub none_above : 0 < len → (spot_at s (o + (len - 1))).nugget < n → touched_of s o len n ≡ 0
  none_above some h =
      let e : o + len - 1 ≡ o + (len - 1) = omega arith in
      let p : 0 < s.p = omega (arith, l.flakes) in
      sym (touched_none s o len n l some (rw e ((div-lt_iff_lt-mul p).0 h)))

-- a nugget with no flake touched is idle, whatever its record
pub idles_way : (r : Record) (t head : ℕ) → idles (way_of r t head) ≡ eqb t 0
unfolding way_of
idles_way r t head = go (eqb t 0) (both (share_none r.spent t) (eqb r.epoch head))
  where
    go : (a b : Bool) → idles (pick a Idle (pick b (Add t) (Rekey t))) ≡ a
    go true b = refl
    go false true = refl
    go false false = refl

module _ (d : Drive) (v : List ℕ) (o len : ℕ) (l : Limits (shape_of d)) where
  pub idle-below : (n : ℕ) → n < (spot_at (shape_of d) o).nugget → write_way d v o len n ≡ Idle
  idle-below n h = way_idle (record_of (shape_of d) v n) (touched_of (shape_of d) o len n) d.epoch (none_below (shape_of d) o len n l h)

  pub idle-above : (n : ℕ) → 0 < len → (spot_at (shape_of d) (o + (len - 1))).nugget < n → write_way d v o len n ≡ Idle
  idle-above n some h = way_idle (record_of (shape_of d) v n) (touched_of (shape_of d) o len n) d.epoch (none_above (shape_of d) o len n l some h)

-- an idle nugget accepts, lists nothing and is left
module _ (way : ℕ → Way) (n : ℕ) (e : way n ≡ Idle) where
  pub tested_idle : (d : Drive) (v : List ℕ) → tested_to d v way (suc n) ≡ tested_to d v way n
  unfolding tested_to nugget_change and_then
  tested_idle d v = rw e (go (tested_to d v way n) (told (accepts (tested_to d v way n))))
    where
      go : (a : Answer) → (accepts a ≡ true) ⊎ (accepts a ≡ false) → pick (accepts a) A.Accepted a ≡ a
      go a (inl h) = yes _ h (sym (accepted_is a h))
      go a (inr h) = no _ h refl

  pub pads-idle_to : (p : ℕ) (records : ℕ → Record) (s : List ℕ) → pads_to p way records s (suc n) ≡ pads_to p way records s n
  unfolding pads_to
  pads-idle_to p records s = rw (e, pads-idle p n (records n) s) (append-nil (pads_to p way records s n))

  pub marked-idle : (s : Shape) (head : ℕ) (v w : List ℕ) → marked_to s head way v (suc n) w ≡ marked_to s head way v n w
  unfolding marked_to marked
  marked-idle s head v w = rw e refl

  pub tended-idle : (s : Shape) (w : List ℕ) → tended_to s way (suc n) w ≡ tended_to s way n w
  unfolding tended_to tended
  tended-idle s w = rw e refl

-- what the accepted tests of the nuggets below n say of each
module _ (d : Drive) (v : List ℕ) (way : ℕ → Way) where
  pub tested_each : (n m : ℕ) → m < n → accepts (tested_to d v way n) ≡ true → accepts (nugget_change d v m (way m)) ≡ true
  unfolding tested_to
  tested_each zero m h e = absurd (omega arith)
  tested_each (suc n) m h e = go (told (eqb m n)) (told (accepts (tested_to d v way n))) (λ k t. tested_each n m k t)
    where
      go : (eqb m n ≡ true) ⊎ (eqb m n ≡ false) → (accepts (tested_to d v way n) ≡ true) ⊎ (accepts (tested_to d v way n) ≡ false)
          → (m < n → accepts (tested_to d v way n) ≡ true → accepts (nugget_change d v m (way m)) ≡ true) → accepts (nugget_change d v m (way m)) ≡ true
      go x (inr shut) f = absurd (clash e (ap accepts (stops (tested_to d v way n) _ shut) ∙ shut))
      go (inl q) (inl open') f = rw (eqb-true m n q) (ap accepts (sym (goes_on (tested_to d v way n) _ open')) ∙ e)
      go (inr q) (inl open') f = f (omega (arith, eqb-false m n q)) open'

  -- the next nugget's tests, those before it accepted
  pub tested_next : (n : ℕ) → tested_to d v way n ≡ A.Accepted → tested_to d v way (suc n) ≡ nugget_change d v n (way n)
  unfolding tested_to and_then
  tested_next n e = rw e refl

  -- a refusal stays
  pub tested_stays : (k n : ℕ) → n ≤ k → accepts (tested_to d v way n) ≡ false → tested_to d v way k ≡ tested_to d v way n
  unfolding tested_to
  tested_stays zero n h e = let z : n ≡ 0 = omega arith in rw z refl
  tested_stays (suc k) n h e = go (told (eqb n (suc k))) (λ q. tested_stays k n q e)
    where
      go : (eqb n (suc k) ≡ true) ⊎ (eqb n (suc k) ≡ false) → (n ≤ k → tested_to d v way k ≡ tested_to d v way n)
          → and_then (tested_to d v way k) (nugget_change d v k (way k)) ≡ tested_to d v way n
      go (inl q) f = rw (eqb-true n (suc k) q) refl
      go (inr q) f =
          let same : tested_to d v way k ≡ tested_to d v way n = f (omega (arith, h, eqb-false n (suc k) q)) in
          stops (tested_to d v way k) _ (ap accepts same ∙ e) ∙ same
