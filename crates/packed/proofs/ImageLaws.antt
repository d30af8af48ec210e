-- A drive comes back from its image.
use Prim.{tt}
use mathlib.Core.Path.{◌≡◌, refl, sym, ◌∙◌, ap}
use mathlib.Core.Bool.{false}
use mathlib.Core.List.{List, [], ◌∷◌, append_assoc}
use Prim.Native.Nat.{ℕ, zero, suc, ◌<◌, ◌≤◌}
use native.Mathlib.Omega.{arith}
use lib.Dec.{ltb}
use borrow.Author.Tests.{le-ltb, ne_eqb}
use Rattle.base.specs.Lists.{part}
use Rattle.base.proofs.PickLaws.{no}
use Rattle.words.specs.Le.{num, Bytes}
use Rattle.codec.specs.Row.{Values, ◌&◌, AllFit, starts, row, row_in}
use Rattle.codec.proofs.RowLaws.{row_only, row_back}
use Rattle.drive.specs.declared.Drive.{Drive}
use Rattle.drive.specs.declared.State.{State}
use Rattle.drive.specs.declared.State.TheVariants.{Steady, Changing}
use Rattle.drive.specs.Head.{state_byte}
use Rattle.packed.specs.Image.{epoch_left, numbers_image, front_image, whole_image, drive_row, drive_values, drive_image, image_state, drive_of, drive_in, DriveFits, Made}

-- "0-3 N; 4-7 P; 8-11 F; 12 state; 13 cipher; 14-15 epoch; 16-17 the epoch being left; 18-19 version; 20-23 zero; 24-39 salt; 40-47 counter;
-- 48-79 node 1; 80-111 present secret; 112-143 old secret"
pub places : starts 0 drive_row ≡ 0 ∷ 4 ∷ 8 ∷ 12 ∷ 13 ∷ 14 ∷ 16 ∷ 18 ∷ 20 ∷ 24 ∷ 40 ∷ 48 ∷ 80 ∷ 112 ∷ []
places = refl

low : (s : State) → state_byte s < 256
low Steady = omega arith
low (Changing left) = omega arith

known : (s : State) → ltb 1 (state_byte s) ≡ false
known Steady = refl
known (Changing left) = refl

state-back : (s : State) → image_state (state_byte s) (epoch_left s) ≡ s
state-back Steady = refl
state-back (Changing left) = refl

drive_of_lem : (d : Drive) → drive_of (drive_values d) ≡ d
drive_of_lem d = no _ (known d.state) (rw (state-back d.state) refl)

fit : (d : Drive) → DriveFits d → AllFit drive_row (drive_values d)
fit d w =
    w.n_width & w.p_width & w.f_width & low d.state & w.cipher_width & w.epoch_width & w.left_width & w.version_width & refl & w.salt_long & w.counter_width & w.node_long & w.present_long & w.old_long & tt

-- a drive that was packed is unpacked: every field, the state and both secrets as they were
pub drive-back : (d : Drive) → DriveFits d → drive_in (drive_image d) ≡ d
unfolding drive_in drive_image
drive-back d w = ap drive_of (row_only drive_row (drive_values d) (fit d w)) ∙ drive_of_lem d

-- the code's three pieces are the row
pub image_of : (d : Drive)
    → whole_image (front_image (numbers_image d.n d.p d.f (state_byte d.state) d.cipher d.epoch (epoch_left d.state) d.version) d.salt d.counter) d.node d.present d.old
    ≡ drive_image d
unfolding numbers_image drive_image
image_of d = simp append_assoc

byte_of : (b left : ℕ) → b ≤ 1 → state_byte (image_state b left) ≡ b
byte_of zero left h = refl
byte_of (suc zero) left h = refl
byte_of (suc (suc b)) left h = absurd (omega arith)

left_of : (b left : ℕ) → (b ≡ 0 → left ≡ 0) → epoch_left (image_state b left) ≡ left
left_of zero left h = sym (h refl)
left_of (suc b) left h = rw (ne_eqb (suc b) 0 (λ e. omega arith)) refl

values_of : (v : List ℕ) → Made v → drive_values (drive_in v) ≡ row_in drive_row 0 0 v
unfolding drive_in
values_of v m =
    let byte = num (part 12 1 v) in
    let left = num (part 16 2 v) in
    let z = row_in drive_row 0 0 v in
    rw (le-ltb 1 byte m.known_byte)
    (λ i. z.0 & z.1.0 & z.1.1.0 & byte_of byte left m.known_byte i & z.1.1.1.1.0 & z.1.1.1.1.1.0 & left_of byte left m.zero_left i & z.1.1.1.1.1.1.1.0 & sym m.zero_bytes i & z.1.1.1.1.1.1.1.1.1)

-- such an image comes back from its drive
pub image-back : (v : List ℕ) → Bytes v → Made v → drive_image (drive_in v) ≡ part 0 144 v
unfolding drive_image
image-back v h m = ap (λ (z : Values drive_row). row drive_row z) (values_of v m) ∙ row_back drive_row 0 v h m.long
