-- The drive's image, 144 bytes: "0-3 N; 4-7 P; 8-11 F; 12 state (0 steady, 1 changing); 13 zero; 14-15 epoch; 16-17 the epoch
-- being left (zero when steady); 18-23 zero; 24-39 salt; 40-47 counter; 48-79 node 1; 80-111 present secret; 112-143 old
-- secret." Document 02, Item 4: "bytes 18-19 are the version"; 20-23 stay zero. Item 8: "byte 13 is the cipher".
use Prim.{tt}
use Rattle.std.specs.Prelude.{ℕ, ◌^◌, ◌<◌, ◌≤◌, ◌≡◌, List, [], ◌∷◌, ◌++◌, eqb, ltb, length}
use Rattle.base.specs.Pick.{pick}
use Rattle.base.specs.Lists.{part}
use Rattle.words.specs.Le.{num}
use Rattle.codec.specs.Row.{Field, number, string, Values, ◌&◌, row, row_in}
use Rattle.drive.specs.declared.Drive.{Drive}
use Rattle.drive.specs.declared.State.{State}
use Rattle.drive.specs.declared.State.TheVariants.{Steady, Changing}
use Rattle.drive.specs.Drive.{zeros, blank_drive}
use Rattle.drive.specs.Head.{state_byte}

abbrev pub epoch_left : State → ℕ
epoch_left Steady = 0
epoch_left (Changing left) = left

-- N, P, F, state, cipher, epoch, the epoch being left, version, zeros
abbrev pub image_numbers : List Field
image_numbers = number 4 ∷ number 4 ∷ number 4 ∷ number 1 ∷ number 1 ∷ number 2 ∷ number 2 ∷ number 2 ∷ string 4 ∷ []

-- and salt, counter, node 1, present secret, old secret
abbrev pub drive_row : List Field
drive_row = image_numbers ++ (string 16 ∷ number 8 ∷ string 32 ∷ string 32 ∷ string 32 ∷ [])

-- bytes 0 to 23
unfoldable pub numbers_image : ℕ → ℕ → ℕ → ℕ → ℕ → ℕ → ℕ → ℕ → List ℕ
numbers_image n p f state cipher epoch left version = row image_numbers (n & p & f & state & cipher & epoch & left & version & zeros 4 & tt)

-- bytes 0 to 47, and all, from pieces made before
abbrev pub front_pieces : List Field
front_pieces = string 24 ∷ string 16 ∷ number 8 ∷ []

abbrev pub front_image : List ℕ → List ℕ → ℕ → List ℕ
front_image numbers salt counter = row front_pieces (numbers & salt & counter & tt)

abbrev pub whole_pieces : List Field
whole_pieces = string 48 ∷ string 32 ∷ string 32 ∷ string 32 ∷ []

abbrev pub whole_image : List ℕ → List ℕ → List ℕ → List ℕ → List ℕ
whole_image front node present old = row whole_pieces (front & node & present & old & tt)

abbrev pub drive_values : Drive → Values drive_row
drive_values d =
    d.n & d.p & d.f & state_byte d.state & d.cipher & d.epoch & epoch_left d.state & d.version & zeros 4 & d.salt & d.counter & d.node & d.present & d.old & tt

unfoldable pub drive_image : Drive → List ℕ
drive_image d = row drive_row (drive_values d)

abbrev pub image_state : ℕ → ℕ → State
image_state byte left = pick (eqb byte 0) Steady (Changing left)

-- "An image whose byte 12 is neither 0 nor 1 is answered 1": it counts as the blank drive.
-- "The zero bytes and a steady image's epoch being left aren't looked at."
abbrev pub drive_of : Values drive_row → Drive
drive_of (n, (p, (f, (byte, (cipher, (epoch, (left, (version, (_, (salt, (counter, (node, (present, (old, _)))))))))))))) =
    pick (ltb 1 byte) blank_drive
    (record {
      n = n;
      p = p;
      f = f;
      version = version;
      cipher = cipher;
      salt = salt;
      state = image_state byte left;
      epoch = epoch;
      counter = counter;
      node = node;
      present = present;
      old = old;
    })

-- the drive of an image
unfoldable pub drive_in : List ℕ → Drive
drive_in v = drive_of (row_in drive_row 0 0 v)

-- each field is within its type
pub record DriveFits (d : Drive) : Type 0 where
  pub n_width : d.n < 2 ^ 32
  pub p_width : d.p < 2 ^ 32
  pub f_width : d.f < 2 ^ 32
  pub version_width : d.version < 2 ^ 16
  pub cipher_width : d.cipher < 2 ^ 8
  pub epoch_width : d.epoch < 2 ^ 16
  pub left_width : epoch_left d.state < 2 ^ 16
  pub counter_width : d.counter < 2 ^ 64
  pub salt_long : length d.salt ≡ 16
  pub node_long : length d.node ≡ 32
  pub present_long : length d.present ≡ 32
  pub old_long : length d.old ≡ 32

-- an image as `pack` leaves it: a known state, the zero bytes zero, and no epoch being left in a steady one
pub record Made (v : List ℕ) : Type 0 where
  pub long : 144 ≤ length v
  pub known_byte : num (part 12 1 v) ≤ 1
  pub zero_left : num (part 12 1 v) ≡ 0 → num (part 16 2 v) ≡ 0
  pub zero_bytes : part 20 4 v ≡ zeros 4
