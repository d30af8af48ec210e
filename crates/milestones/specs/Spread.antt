-- Possible numbers spread over records: each nugget takes 64 flakes as long as there are some.
use Rattle.std.specs.Prelude.{ℕ, zero, suc, ◌-◌, ◌*◌, min, List, ltb}
use Rattle.std.proofs.lemmas.List.Edits.{sets}
use Rattle.base.specs.Pick.{pick}
use Rattle.layout.specs.declared.Shape.{Shape}
use Rattle.layout.specs.Shape.{shape}
use Rattle.layout.specs.Parts.{record_at, length_of}
use Rattle.records.specs.declared.Record.{Record}
use Rattle.records.specs.Journal.{all_flakes}
use Rattle.records.specs.Record.{record_bytes}
use Rattle.nodes.specs.Nodes.{node_in}
use Rattle.tree.specs.Renewed.{built}
use Rattle.drive.specs.declared.Drive.{Drive}
use Rattle.drive.specs.declared.State.TheVariants.{Changing}
use Rattle.drive.specs.Drive.{zeros}
use Rattle.drive.specs.Head.{head_of}
use Rattle.reports.specs.declared.told.Counts.{Counts}
use Rattle.reports.specs.Counts.{count_of, none, plus}
use Rattle.standings.specs.declared.Standing.{Standing}

-- the first nuggets have moved
unfoldable pub flakes_for : Standing → ℕ → ℕ
flakes_for t k = let c = t.counts in pick (ltb k c.moved) (min 64 (c.done - 64 * k)) (min 64 (c.flakes - c.done - 64 * (k - c.moved)))

unfoldable pub record_for : Standing → ℕ → Record
record_for t k =
    let mask = all_flakes (flakes_for t k) in
    record { keycount = 0; spent = mask; held = mask; epoch = pick (ltb k t.counts.moved) 2 1 }

-- what the first k of them count
unfoldable pub counts_for : Standing → ℕ → Counts
counts_for t zero = none
counts_for t (suc k) = plus (counts_for t k) (count_of 64 2 (record_for t k))

-- n nuggets of 64 flakes of 64 bytes
abbrev pub wide_shape : ℕ → Shape
wide_shape n = shape n 64 64

-- the first k records stored in a volume
unfoldable pub laid_to : Shape → (ℕ → Record) → ℕ → List ℕ → List ℕ
laid_to s g zero v = v
laid_to s g (suc k) v = sets (laid_to s g k v) (record_at s k) (record_bytes s (g k))

-- a volume with these records and the tree over them
unfoldable pub treed : ℕ → (ℕ → Record) → List ℕ
treed n g = built (wide_shape n) (laid_to (wide_shape n) g n (zeros (length_of (wide_shape n))))

-- a drive in the middle of its first change, over that tree
unfoldable pub drive_over : ℕ → (ℕ → Record) → Drive
drive_over n g =
    record {
      n = n;
      p = 64;
      f = 64;
      version = 1;
      cipher = 0;
      salt = zeros 16;
      state = Changing 1;
      epoch = 2;
      counter = 0;
      node = node_in (wide_shape n) (treed n g) 1;
      present = zeros 32;
      old = zeros 32;
    }

-- and its head in front
unfoldable pub volume_over : ℕ → (ℕ → Record) → List ℕ
volume_over n g = sets (treed n g) 0 (head_of (drive_over n g))
