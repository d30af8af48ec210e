-- Document 02, Item 6: "Moving up copies a version 1 volume into a second lent buffer as version 2: same contents, keycounts, epochs
-- and stored flakes; held equals spent; present flakes' tags made anew after the old ones pass; absent ones' copied. Moving down is
-- the reverse. Each adds 1 to the counter".
use Rattle.std.specs.Prelude.{ℕ, zero, suc, ◌≡◌, List}
use Rattle.std.proofs.lemmas.List.Edits.{sets}
use Rattle.base.specs.Pick.{pick}
use Rattle.base.specs.Lists.{part}
use Rattle.layout.specs.declared.Shape.{Shape}
use Rattle.layout.specs.Parts.{tag_at, record_at, flakes_at, length_of}
use Rattle.layout.specs.Spots.{capacity}
use Rattle.records.specs.declared.Record.{Record}
use Rattle.records.specs.Journal.{bit}
use Rattle.records.specs.Record.{record_bytes, record_of}
use Rattle.keys.specs.Tags.{tag_of}
use Rattle.tree.specs.Renewed.{built}
use Rattle.drive.specs.declared.Drive.{Drive}
use Rattle.drive.specs.Drive.{shape_of, zeros}
use Rattle.nuggets.specs.declared.Nugget.{Nugget}
use Rattle.nuggets.specs.Nugget.{secret_for, lock_by, stored_in}
use Rattle.changes.specs.Change.{advanced, settled}

-- the drive under another version, all else as it was
abbrev pub entering : ℕ → Drive → Drive
entering e d =
    record {
      n = d.n;
      p = d.p;
      f = d.f;
      version = e;
      cipher = d.cipher;
      salt = d.salt;
      state = d.state;
      epoch = d.epoch;
      counter = d.counter;
      node = d.node;
      present = d.present;
      old = d.old;
    }

-- its shape: the one to enter
abbrev pub entered : ℕ → Drive → Shape
entered e d = shape_of (entering e d)

-- two shapes of one N, P and F
pub record SameSizes (s t : Shape) : Type 0 where
  pub nuggets : t.n ≡ s.n
  pub flakes : t.p ≡ s.p
  pub bytes : t.f ≡ s.f

-- a nugget by its record, under the version to enter: its lock and the flakes that it holds
abbrev pub nugget_under : Drive → Shape → Record → ℕ → Nugget
nugget_under d t r n = record { lock = lock_by t d.salt (secret_for d r.epoch) n r.keycount; held = r.held }

-- "same [..] stored flakes", absent ones too, over zeros
unfoldable pub copied : Shape → Shape → List ℕ → List ℕ
copied s t v = sets (zeros (length_of t)) (flakes_at t) (part (flakes_at s) (capacity s) v)

-- "present flakes' tags made anew [..]; absent ones' copied"
unfoldable pub new_tag : Shape → List ℕ → Nugget → ℕ → List ℕ
new_tag s v g f =
    pick (bit g.held f) (tag_of g.lock f (stored_in s v g.lock.number f)) (part (tag_at s g.lock.number f) 16 v)

-- those of the flakes below f
unfoldable pub tags_to : Shape → Shape → List ℕ → Nugget → ℕ → List ℕ → List ℕ
tags_to s t v g zero w = w
tags_to s t v g (suc f) w = sets (tags_to s t v g f w) (tag_at t g.lock.number f) (new_tag s v g f)

-- "same [..] keycounts, epochs": nugget n's record in the other width, then its tags
unfoldable pub carried : Drive → Shape → List ℕ → ℕ → List ℕ → List ℕ
carried d t v n w =
    let r = record_of (shape_of d) v n in
    tags_to (shape_of d) t v (nugget_under d t r n) d.p (sets w (record_at t n) (record_bytes t r))

-- the nuggets below n
unfoldable pub carried_to : Drive → Shape → List ℕ → ℕ → List ℕ → List ℕ
carried_to d t v zero w = w
carried_to d t v (suc n) w = carried d t v n (carried_to d t v n w)

-- all that a move stores before the head: flakes, records and tags, and the tree over them
unfoldable pub carried_over : Drive → Shape → List ℕ → List ℕ
carried_over d t v = built t (carried_to d t v d.n (copied (shape_of d) t v))

-- "Each adds 1 to the counter": the drive of the second buffer, and what that holds
abbrev pub moved_drive : ℕ → Drive → List ℕ → Drive
moved_drive e d v = advanced (entering e d) (carried_over d (entered e d) v)

abbrev pub moved_volume : ℕ → Drive → List ℕ → List ℕ
moved_volume e d v = settled (moved_drive e d v) (carried_over d (entered e d) v)
