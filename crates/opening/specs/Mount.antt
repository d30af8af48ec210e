-- Document 01: "Mount takes both secrets (the old one unused when steady) and the outside counter. It changes nothing in
-- the volume." "Mount: 2 (under 104 bytes), 3, 1, 2, 4, 5, 6, 7 whole."
use Rattle.std.specs.Prelude.{ℕ, ◌-◌, ◌*◌, ◌/◌, ◌%◌, Bool, List, leb, eqb, length}
use Rattle.base.specs.Pick.{pick, both}
use Rattle.base.specs.Lists.{part, same}
use Rattle.words.specs.Le.{num}
use Rattle.answers.specs.Answer.{Answer}
use Rattle.answers.specs.Answer as A
use Rattle.answers.specs.Numbers.{accepts}
use Rattle.answers.specs.Stages.{and_then}
use Rattle.layout.specs.declared.Shape.{Shape}
use Rattle.layout.specs.Shape.{shape_as, known_version, in_limits}
use Rattle.layout.specs.Parts.{length_of}
use Rattle.keys.specs.Keys.{seal_of}
use Rattle.nodes.specs.Nodes.{node_in}
use Rattle.tree.specs.Whole.{whole_of}
use Rattle.drive.specs.declared.Drive.{Drive}
use Rattle.drive.specs.declared.Done.{Done}
use Rattle.drive.specs.declared.State.{State}
use Rattle.drive.specs.declared.State.TheVariants.{Steady, Changing}
use Rattle.drive.specs.Drive.{shape_of, gauge_of, blank_drive, kept_old}
use Rattle.drive.specs.Head.{mark, check_in}
use Rattle.drive.specs.Opening.{state_fits}

-- the head's fields: "0-2 `NGT`; 3-4 version 1; 5 state (0 steady, 1 changing); 6-7 epoch; 8-11 N; 12-13 P; 14-15 F; 16-31
-- salt; 32-39 counter; 40-71 old-secret check (zeros when steady); 72-103 seal"; Item 8: the cipher is "kept in head byte 5 above the
-- state: 16 for AES, 0 for ChaCha20"
abbrev pub mark_in : List ℕ → List ℕ
mark_in v = part 0 3 v

abbrev pub version_in : List ℕ → ℕ
version_in v = num (part 3 2 v)

abbrev pub kind_in : List ℕ → ℕ
kind_in v = num (part 5 1 v)

abbrev pub state_byte_in : List ℕ → ℕ
state_byte_in v = kind_in v % 16

abbrev pub cipher_in : List ℕ → ℕ
cipher_in v = kind_in v / 16 * 16

abbrev pub epoch_in : List ℕ → ℕ
epoch_in v = num (part 6 2 v)

abbrev pub shape_in : List ℕ → Shape
shape_in v = shape_as (version_in v) (cipher_in v) (num (part 8 4 v)) (num (part 12 2 v)) (num (part 14 2 v))

abbrev pub salt_in : List ℕ → List ℕ
salt_in v = part 16 16 v

abbrev pub counter_in : List ℕ → ℕ
counter_in v = num (part 32 8 v)

abbrev pub check_bytes : List ℕ → List ℕ
check_bytes v = part 40 32 v

abbrev pub seal_bytes : List ℕ → List ℕ
seal_bytes v = part 72 32 v

-- "changing carries the epoch being left", "one below the drive's"
abbrev pub state_in : List ℕ → State
state_in v = pick (eqb (state_byte_in v) 0) Steady (Changing (epoch_in v - 1))

-- the drive that the head's bytes, node 1 and the brought secrets make
unfoldable pub opened_drive : List ℕ → List ℕ → List ℕ → Drive
opened_drive v present old =
    record {
      n = num (part 8 4 v);
      p = num (part 12 2 v);
      f = num (part 14 2 v);
      version = version_in v;
      cipher = cipher_in v;
      salt = salt_in v;
      state = state_in v;
      epoch = epoch_in v;
      counter = counter_in v;
      node = node_in (shape_in v) v 1;
      present = present;
      old = kept_old (state_in v) old;
    }

-- 3: "mark or version differs"; the version is one that there is
unfoldable pub mark_fits : List ℕ → Bool
mark_fits v = both (same (mark_in v) mark) (known_version (version_in v))

-- 1: "N, P, F, state or epoch out of limits"; Item 8: "1 for any other value of byte 5"
unfoldable pub head_fits : List ℕ → Bool
head_fits v = both (in_limits (shape_in v)) (both (leb (state_byte_in v) 1) (state_fits (state_in v) (epoch_in v)))

-- 2: "volume length is not the sum of the parts"
unfoldable pub length_fits : List ℕ → Bool
length_fits v = eqb (length v) (length_of (shape_in v))

-- 4: "Seal: keyed with the present secret, `H`, head bytes 0-71, node 1", of the bytes as they stand
unfoldable pub sealed : Drive → List ℕ → Bool
sealed d v = same (seal_bytes v) (seal_of d.present (part 0 72 v) d.node)

-- 5: "old-secret check differs (when steady: from zeros)"
unfoldable pub checked : Drive → List ℕ → Bool
checked d v = same (check_bytes v) (check_in d)

-- 7 whole, under the drive's epoch and state
abbrev pub whole_in : Drive → List ℕ → Answer
whole_in d v = whole_of (shape_of d) (gauge_of d) v

-- the form of the head: "2 (under 104 bytes), 3, 1, 2"
unfoldable pub form_of : List ℕ → Answer
form_of v =
    pick (leb 104 (length v))
    (pick (mark_fits v) (pick (head_fits v) (pick (length_fits v) A.Accepted A.Length) A.Limits) A.Mark)
    A.Length

-- the keys: "4, 5, 6"
unfoldable pub keys_of : Drive → List ℕ → ℕ → Answer
keys_of d v outside = pick (sealed d v) (pick (checked d v) (pick (eqb d.counter outside) A.Accepted A.Counter) A.OldSecret) A.Seal

-- "4, 5, 6, 7 whole"
unfoldable pub rest_of : Drive → List ℕ → ℕ → Answer
rest_of d v outside = and_then (keys_of d v outside) (whole_in d v)

-- "Mount: 2 (under 104 bytes), 3, 1, 2, 4, 5, 6, 7 whole."
unfoldable pub mount_answer : List ℕ → List ℕ → List ℕ → ℕ → Answer
mount_answer v present old outside = and_then (form_of v) (rest_of (opened_drive v present old) v outside)

-- "A refused format or mount returns the blank drive"
abbrev pub mount_done_at : Answer → List ℕ → List ℕ → List ℕ → Done
mount_done_at a v present old = record { answer = a; drive = pick (accepts a) (opened_drive v present old) blank_drive }

unfoldable pub mount_done : List ℕ → List ℕ → List ℕ → ℕ → Done
mount_done v present old outside = mount_done_at (mount_answer v present old outside) v present old
