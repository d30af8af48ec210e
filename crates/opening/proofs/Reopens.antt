-- A drive that passes the opening tests over a volume that passes whole: mounting the volume gives that very drive.
use Prim.{tt}
use mathlib.Core.Path.{◌≡◌, refl, sym, ◌∙◌, ap}
use mathlib.Core.Bool.{true}
use mathlib.Core.Logic.{◌⊎◌, inl, inr}
use mathlib.Core.List.{List}
use Prim.Native.Nat.{ℕ, ◌-◌, ◌+◌, ◌*◌, ◌/◌, ◌%◌, ◌^◌, ◌<◌, ◌≤◌}
use native.Mathlib.Omega.{arith}
use lib.Dec.{leb, eqb}
use lib.ListN.{length, length-append, length-replicate}
use borrow.Author.Tests.{le-leb, eq-eqb, eqb-true}
use Rattle.base.specs.Pick.{pick}
use Rattle.base.specs.Lists.{part, same}
use Rattle.base.proofs.PickLaws.{yes, both_left, both_right, both-on}
use Rattle.base.proofs.FoldLaws.{same_true, same_refl}
use Rattle.codec.specs.Row.{◌&◌, AllLong, AllFit, row_in}
use Rattle.codec.proofs.RowLaws.{length-row, peel, apart, read_back}
use Rattle.answers.specs.Answer as A
use Rattle.answers.specs.Numbers.{accepts}
use Rattle.answers.proofs.StageLaws.{goes_on}
use Rattle.layout.specs.declared.Shape.{Shape}
use Rattle.layout.specs.Shape.{shape_as, known_version, known_cipher, in_limits}
use Rattle.layout.specs.Parts.{length_of, node_at}
use Rattle.layout.proofs.Limits.{limits, version_le, version_known, cipher_is, cipher-le, cipher-known}
use Rattle.layout.proofs.Places.{parts_inside}
use Rattle.keys.specs.Keys.{seal_of}
use Rattle.keys.proofs.KeyLaws.{length-check as length-of-check, length-seal}
use Rattle.drive.specs.declared.Drive.{Drive}
use Rattle.drive.specs.declared.State.{State}
use Rattle.drive.specs.declared.State.TheVariants.{Steady, Changing}
use Rattle.drive.specs.Drive.{shape_of, kept_old}
use Rattle.drive.specs.Head.{mark, state_byte, kind_byte, check_for, check_in, front_row, front_values, front_in, head_of}
use Rattle.drive.specs.Opening.{state_fits, in_form, head_stands, opening_of}
use Rattle.opening.specs.Mount.{shape_in, version_in, kind_in, state_byte_in, cipher_in, state_in, epoch_in, mark_fits, head_fits, length_fits, sealed, checked, whole_in, opened_drive, form_of, keys_of, rest_of, mount_answer, mount_done}
use Rattle.opening.proofs.MountLaws.{mount-on}
use Rattle.drive.proofs.OpeningLaws.{Admitted, opening-told}

-- lengths of the head's pieces
length-check : (s : State) (old salt : List ℕ) (epoch : ℕ) → length (check_for s old salt epoch) ≡ 32
length-check Steady old salt epoch = length-replicate {A = ℕ} 32 0
length-check (Changing left) old salt epoch = length-of-check old salt epoch

front_long : (d : Drive) → length d.salt ≡ 16 → AllLong front_row (front_values d)
front_long d h = refl & tt & tt & tt & tt & tt & tt & h & tt & length-check d.state d.old d.salt d.epoch & tt

pub length_front : (d : Drive) → length d.salt ≡ 16 → length (front_in d) ≡ 72
unfolding front_in
length_front d h = length-row front_row (front_values d) (front_long d h)

pub length-head : (d : Drive) → length d.salt ≡ 16 → length (head_of d) ≡ 104
unfolding head_of
length-head d h = simp length-append (omega (arith, length_front d h, length-seal d.present (front_in d) d.node))

-- the state is read back
state-low : (s : State) → state_byte s ≤ 1
state-low Steady = omega arith
state-low (Changing left) = omega arith

-- and so is the cipher above it
kind-told : (b c : ℕ) → b ≤ 1 → known_cipher c ≡ true → ((b + c) % 16 ≡ b) × ((b + c) / 16 * 16 ≡ c)
kind-told b c h e = go (cipher_is c e)
  where
    go : (c ≡ 0) ⊎ (c ≡ 16) → ((b + c) % 16 ≡ b) × ((b + c) / 16 * 16 ≡ c)
    go (inl z) = (omega (arith, h, z), omega (arith, h, z))
    go (inr z) = (omega (arith, h, z), omega (arith, h, z))

state-told : (s : State) (b e : ℕ) → b ≡ state_byte s → state_fits s e ≡ true → pick (eqb b 0) Steady (Changing (e - 1)) ≡ s
state-told Steady b e q f = rw q refl
state-told (Changing left) b e q f =
    let one : left + 1 ≡ e = eqb-true (left + 1) e (both_right (leb 2 e) (eqb (left + 1) e) f) in
    let back : e - 1 ≡ left = omega (arith, one) in
    rw (q, back) refl

same_of : {a b : List ℕ} → a ≡ b → same a b ≡ true
same_of {a} {b} e = rw e (same_refl b)

-- a drive as the calls hand it out: numbers within their widths, and no old secret but while changing
pub record Handed (d : Drive) (old : List ℕ) : Type 0 where
  pub epoch_lt : d.epoch < 256 ^ 2
  pub counter_lt : d.counter < 256 ^ 8
  pub salt_long_lem : length d.salt ≡ 16
  pub kept : kept_old d.state old ≡ d.old

module _ (d : Drive) (w old : List ℕ) (x : Handed d old) (opens : opening_of d w ≡ A.Accepted) where
  tests : Admitted d w
  tests = opening-told d w opens

  in_limits_lem : in_limits (shape_of d) ≡ true
  unfolding in_form
  in_limits_lem = both_left (in_limits (shape_of d)) (state_fits d.state d.epoch) tests.form

  epoch_fits_lem : state_fits d.state d.epoch ≡ true
  unfolding in_form
  epoch_fits_lem = both_right (in_limits (shape_of d)) (state_fits d.state d.epoch) tests.form

  head_is : head_of d ≡ part 0 104 w
  unfolding head_stands
  head_is = sym (same_true (part 0 104 w) (head_of d) (both_left (same (part 0 104 w) (head_of d)) (same (part (node_at (shape_of d) 1) 32 w) d.node) tests.stands))

  node_is : part (node_at (shape_of d) 1) 32 w ≡ d.node
  unfolding head_stands
  node_is = same_true (part (node_at (shape_of d) 1) 32 w) d.node (both_right (same (part 0 104 w) (head_of d)) (same (part (node_at (shape_of d) 1) 32 w) d.node) tests.stands)

  pieces : (front_in d ≡ part 0 72 w) × (seal_of d.present (front_in d) d.node ≡ part 72 32 w)
  unfolding head_of
  pieces = peel w (front_in d) (seal_of d.present (front_in d) d.node) 0 72 32 72 head_is (length_front d x.salt_long_lem) refl

  front_fits : AllFit front_row (front_values d)
  front_fits =
      let l = limits (shape_of d) in_limits_lem in
      refl
      & omega (arith, version_le d.version (version_known (shape_of d) in_limits_lem))
      & omega (arith, cipher-le d.cipher (cipher-known (shape_of d) in_limits_lem), state-low d.state)
      & x.epoch_lt
      & omega (arith, l.few)
      & omega (arith, l.narrow)
      & omega (arith, l.short)
      & x.salt_long_lem
      & x.counter_lt
      & length-check d.state d.old d.salt d.epoch
      & tt

  -- the head's fields, one by one
  has : row_in front_row 0 0 w ≡ front_values d
  unfolding front_in
  has = read_back front_row 0 0 (front_values d) w front_fits (apart front_row 0 0 (front_values d) w (front_long d x.salt_long_lem) pieces.0)

  mark-back : part 0 3 w ≡ mark
  mark-back i = (has i).0

  version_back : version_in w ≡ d.version
  version_back i = (has i).1.0

  kind-back : kind_in w ≡ kind_byte d
  kind-back i = (has i).1.1.0

  byte-back : state_byte_in w ≡ state_byte d.state
  byte-back = ap (λ (x : ℕ). x % 16) kind-back ∙ (kind-told (state_byte d.state) d.cipher (state-low d.state) (cipher-known (shape_of d) in_limits_lem)).0

  cipher-back : cipher_in w ≡ d.cipher
  cipher-back = ap (λ (x : ℕ). x / 16 * 16) kind-back ∙ (kind-told (state_byte d.state) d.cipher (state-low d.state) (cipher-known (shape_of d) in_limits_lem)).1

  epoch-back : epoch_in w ≡ d.epoch
  epoch-back i = (has i).1.1.1.0

  shape-back : shape_in w ≡ shape_of d
  shape-back i = let z = (has i).1.1.1.1 in shape_as (has i).1.0 (cipher-back i) z.0 z.1.0 z.1.1.0

  check-back : part 40 32 w ≡ check_in d
  check-back i = (has i).1.1.1.1.1.1.1.1.1.0

  state-back : state_in w ≡ d.state
  state-back = ap (λ (e : ℕ). pick (eqb (state_byte_in w) 0) Steady (Changing (e - 1))) epoch-back ∙ state-told d.state (state_byte_in w) d.epoch byte-back epoch_fits_lem

  -- the drive that the head's bytes make is the given one
  pub drive-back : opened_drive w d.present old ≡ d
  unfolding opened_drive
  drive-back =
      let node-back : part (node_at (shape_in w) 1) 32 w ≡ d.node = ap (λ (s : Shape). part (node_at s 1) 32 w) shape-back ∙ node_is in
      let old-back : kept_old (state_in w) old ≡ d.old = ap (λ (s : State). kept_old s old) state-back ∙ x.kept in
      λ i.
      let z = (has i).1.1.1.1 in
      record {
        n = z.0;
        p = z.1.0;
        f = z.1.1.0;
        version = version_back i;
        cipher = cipher-back i;
        salt = z.1.1.1.0;
        state = state-back i;
        epoch = epoch-back i;
        counter = z.1.1.1.1.0;
        node = node-back i;
        present = d.present;
        old = old-back i;
      }

  fits-back : head_fits w ≡ true
  unfolding head_fits
  fits-back =
      both-on (ap (λ (s : Shape). in_limits s) shape-back ∙ in_limits_lem)
      (both-on (le-leb (state_byte_in w) 1 (omega (arith, byte-back, state-low d.state)))
      (ap (λ (s : State). state_fits s (epoch_in w)) state-back ∙ ap (λ (e : ℕ). state_fits d.state e) epoch-back ∙ epoch_fits_lem))

  marked-back : mark_fits w ≡ true
  unfolding mark_fits
  marked-back = both-on (same_of mark-back) (ap (λ (x : ℕ). known_version x) version_back ∙ version_known (shape_of d) in_limits_lem)

  length_back : length_fits w ≡ true
  unfolding length_fits
  length_back = eq-eqb (length w) (length_of (shape_in w)) (tests.long ∙ sym (ap (λ (s : Shape). length_of s) shape-back))

  sealed-back : sealed d w ≡ true
  unfolding sealed
  sealed-back = same_of (sym pieces.1 ∙ ap (λ (f : List ℕ). seal_of d.present f d.node) pieces.0)

  checked-back : checked d w ≡ true
  unfolding checked
  checked-back = same_of check-back

  -- with the drive's secrets and counter the mount's answer is that of the whole
  pub reopens : mount_answer w d.present old d.counter ≡ whole_in d w
  unfolding mount_answer form_of rest_of keys_of
  reopens =
      let long = le-leb 104 (length w) (omega (arith, tests.long, parts_inside (shape_of d))) in
      let form : form_of w ≡ A.Accepted = yes _ long (yes _ marked-back (yes _ fits-back (yes _ length_back refl))) in
      let keys : keys_of (opened_drive w d.present old) w d.counter ≡ A.Accepted =
      yes _ (ap (λ (y : Drive). sealed y w) drive-back ∙ sealed-back)
      (yes _ (ap (λ (y : Drive). checked y w) drive-back ∙ checked-back)
      (yes _ (eq-eqb (opened_drive w d.present old).counter d.counter (ap (λ (y : Drive). y.counter) drive-back)) refl)) in
      goes_on _ _ (ap accepts form) ∙ goes_on _ _ (ap accepts keys) ∙ ap (λ (y : Drive). whole_in y w) drive-back

  pub mounts-back : whole_in d w ≡ A.Accepted → mount_done w d.present old d.counter ≡ record { answer = A.Accepted; drive = d }
  mounts-back whole = sym (mount-on w d.present old d.counter (reopens ∙ whole) refl (sym drive-back))
