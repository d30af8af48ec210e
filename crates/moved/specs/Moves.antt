-- Document 02, Item 6, for every drive and every volume, hostile ones too: what an accepted move leaves, from the version `leave` into
-- the version `enter`. Each statement is proved, under the same name in small letters, in proofs/.
use Rattle.std.specs.Prelude.{ℕ, ◌+◌, ◌^◌, ◌<◌, ◌≡◌, true, false, List, length, drop}
use Rattle.base.specs.Lists.{part}
use Rattle.words.specs.Le.{Bytes}
use Rattle.answers.specs.Answer as A
use Rattle.layout.specs.Shape.{known_version}
use Rattle.layout.specs.Parts.{tag_at}
use Rattle.records.specs.Journal.{bit}
use Rattle.records.specs.Record.{record_of}
use Rattle.keys.specs.Tags.{tag_of}
use Rattle.drive.specs.declared.Drive.{Drive}
use Rattle.drive.specs.Drive.{shape_of, counter_top}
use Rattle.nuggets.specs.Nugget.{lock_for, stored_in, contents_of}
use Rattle.opening.specs.Mount.{mount_done}
use Rattle.moving.specs.Move.{move_answer, move_done, move_second, up_answer, up_done, up_second, down_answer, down_second}

-- what the code's types say of a drive
pub record Typed (d : Drive) : Type 0 where
  pub salted : length d.salt ≡ 16
  pub epoch_lt : d.epoch < 256 ^ 2
  pub counter_lt : d.counter < 256 ^ 8

-- nugget n of drive e and volume u is that of d and v: "same contents, keycounts, epochs and stored flakes; held equals spent; present
-- flakes' tags made anew [..]; absent ones' copied"
pub record Carried (d e : Drive) (v u : List ℕ) (n : ℕ) : Type 0 where
  pub record_is : record_of (shape_of e) u n ≡ record_of (shape_of d) v n
  pub all_held : (record_of (shape_of e) u n).spent ≡ (record_of (shape_of e) u n).held
  pub stored : (f : ℕ) → f < d.p → stored_in (shape_of e) u n f ≡ stored_in (shape_of d) v n f
  pub contents : (f : ℕ) → f < d.p → contents_of e u n f ≡ contents_of d v n f
  pub anew : (f : ℕ) → f < d.p → bit (record_of (shape_of d) v n).held f ≡ true
      → part (tag_at (shape_of e) n f) 16 u ≡ tag_of (lock_for e u n) f (stored_in (shape_of e) u n f)
  pub copied : (f : ℕ) → f < d.p → bit (record_of (shape_of d) v n).held f ≡ false
      → part (tag_at (shape_of e) n f) 16 u ≡ part (tag_at (shape_of d) n f) 16 v

abbrev pub MoveKeeps : Type 0
MoveKeeps =
    (leave enter : ℕ) (d : Drive) (v w : List ℕ) → known_version enter ≡ true → Typed d
    → move_answer leave enter d v (length w) ≡ A.Accepted
    → (n : ℕ) → n < d.n → Carried d (move_done leave enter d v (length w)).drive v (move_second leave enter d v w) n

-- "Each adds 1 to the counter": what was moved mounts with the drive's own secrets against that counter, and gives the very drive.
abbrev pub MovedMounts : Type 0
MovedMounts =
    (leave enter : ℕ) (d : Drive) (v w : List ℕ) → known_version enter ≡ true → Typed d
    → move_answer leave enter d v (length w) ≡ A.Accepted
    → mount_done (move_second leave enter d v w) d.present d.old (d.counter + 1)
    ≡ record { answer = A.Accepted; drive = (move_done leave enter d v (length w)).drive }

-- Moving back is accepted whenever the counter has room and the buffer is as long as the first volume.
abbrev pub BackAccepted : Type 0
BackAccepted =
    (leave enter : ℕ) (d : Drive) (v w : List ℕ) (len : ℕ) → known_version leave ≡ true → known_version enter ≡ true → Typed d
    → move_answer leave enter d v (length w) ≡ A.Accepted
    → let e = (move_done leave enter d v (length w)).drive in
    (e.counter ≡ counter_top → ⊥) → len ≡ length v → move_answer enter leave e (move_second leave enter d v w) len ≡ A.Accepted

-- the volumes differ in counter, bytes 32-39, and seal, bytes 72-103, at most
pub record SameButSeal (v w : List ℕ) : Type 0 where
  pub front : part 0 32 w ≡ part 0 32 v
  pub check : part 40 32 w ≡ part 40 32 v
  pub rest : drop 104 w ≡ drop 104 v

-- "up and then down gives the first volume again except for counter and seal"; and down and then up. A volume's bytes are bytes, as
-- the code's types say.
abbrev pub ThereAndBack : Type 0
ThereAndBack =
    (leave enter : ℕ) (d : Drive) (v w z : List ℕ) → known_version leave ≡ true → known_version enter ≡ true → Typed d → Bytes v
    → move_answer leave enter d v (length w) ≡ A.Accepted
    → let e = (move_done leave enter d v (length w)).drive in
    let u = move_second leave enter d v w in
    move_answer enter leave e u (length z) ≡ A.Accepted → SameButSeal v (move_second enter leave e u z)

-- the same in the paper's words
abbrev pub UpDown : Type 0
UpDown =
    (d : Drive) (v w z : List ℕ) → Typed d → Bytes v → up_answer d v (length w) ≡ A.Accepted
    → let e = (up_done d v (length w)).drive in
    let u = up_second d v w in
    down_answer e u (length z) ≡ A.Accepted → SameButSeal v (down_second e u z)

abbrev pub DownAfterUp : Type 0
DownAfterUp =
    (d : Drive) (v w : List ℕ) → Typed d → up_answer d v (length w) ≡ A.Accepted
    → let e = (up_done d v (length w)).drive in
    (e.counter ≡ counter_top → ⊥) → down_answer e (up_second d v w) (length v) ≡ A.Accepted
