-- Document 01, "Figures to hold against the rules: Proved together, as a single table with a single claim", and the sheet line of
-- document 02's Item 1.
use Rattle.std.specs.Prelude.{◌≡◌, List, [], ◌∷◌, ℕ, ◌+◌, ◌<◌, length}
use Rattle.layout.specs.Shape.{shape, leaves}
use Rattle.layout.specs.Parts.{records_at, tags_at, tree_at, flakes_at, length_of}
use Rattle.layout.specs.Spots.{spot_at}
use Rattle.layout.specs.declared.Shape.{Shape}
use Rattle.line.specs.Lines.{share_text}
use Rattle.drive.specs.Drive.{shape_of, counter_top}
use Rattle.records.specs.Record.{record_of}
use Rattle.reports.specs.declared.told.Counts.{Counts}
use Rattle.reports.specs.Counts.{flakes_in, share_of}
use Rattle.history.specs.World.{World, write}
use Rattle.history.specs.History.{Start, history}

-- the share of n nuggets with these counts, as the sheet shows it
abbrev pub shown : ℕ → Counts → List ℕ
shown n c = share_text (share_of n c)

-- Document 02, Item 1: "Figures 6 to 9 then read as volumes with one flake in each nugget"
abbrev pub one_each : ℕ → ℕ → List ℕ
one_each moved n = shown n (record { moved = moved; flakes = n; done = moved })

abbrev pub small : Shape
small = shape 1 2 64

-- "N 1, P 2, F 64, fresh", with an outside counter that leaves room for so many changes
pub record FreshSmall (changes : ℕ) (x : Start) : Type 0 where
  pub shaped : x.shape ≡ small
  pub room : x.outside + changes < counter_top

-- keycount and journal of nugget 0
abbrev pub keycount_in : World → ℕ
keycount_in w = (record_of (shape_of w.drive) w.vol 0).keycount

abbrev pub journal_in : World → ℕ
journal_in w = (record_of (shape_of w.drive) w.vol 0).held

-- pads listed, flakes present, flakes retired
abbrev pub counts_of : World → List ℕ
counts_of w = length w.listing ∷ flakes_in (shape_of w.drive) w.drive.p w.vol w.drive.n ∷ w.retired ∷ []

pub record Figures : Type 0 where
  -- "N 3, P 2, F 64: length 862; records 104, tags 158, tree 254, flakes 478."
  pub one : ◌≡◌ {A = List ℕ}
      (length_of (shape 3 2 64) ∷ records_at ∷ tags_at (shape 3 2 64) ∷ tree_at (shape 3 2 64) ∷ flakes_at (shape 3 2 64) ∷ [])
      (862 ∷ 104 ∷ 158 ∷ 254 ∷ 478 ∷ [])
  -- "N 1, P 1, F 64: 234."
  pub two : length_of (shape 1 1 64) ≡ 234
  -- "N 16,384, P 64, F 4,096: 4,313,088,072."
  pub three : length_of (shape 16384 64 4096) ≡ 4_313_088_072
  -- "L for N 1, 3, 4, 5: 1, 4, 4, 8."
  pub four : ◌≡◌ {A = List ℕ} (leaves 1 ∷ leaves 3 ∷ leaves 4 ∷ leaves 5 ∷ []) (1 ∷ 4 ∷ 4 ∷ 8 ∷ [])
  -- "P 2, F 64, offset 200: nugget 1, flake 1, byte 8."
  pub five : (n : ℕ) → spot_at (shape n 2 64) 200 ≡ record { nugget = 1; flake = 1; byte = 8 }
  -- "9,996 of 10,000: 99.96."
  pub six : one_each 9996 10000 ≡ 57 ∷ 57 ∷ 46 ∷ 57 ∷ 54 ∷ []
  -- "16,383 of 16,384: 99.99."
  pub seven : one_each 16383 16384 ≡ 57 ∷ 57 ∷ 46 ∷ 57 ∷ 57 ∷ []
  -- "10,000 of 10,000: 100.00."
  pub eight : one_each 10000 10000 ≡ 49 ∷ 48 ∷ 48 ∷ 46 ∷ 48 ∷ 48 ∷ []
  -- "0 of 1: 0.00."
  pub nine : one_each 0 1 ≡ 48 ∷ 46 ∷ 48 ∷ 48 ∷ []
  -- "N 1, P 2, F 64, fresh; write 64 bytes at 0, 64 at 64, 1 at 0: keycount 1, journal 3, four pads listed, two present, two retired."
  pub ten : (x : Start) (a b c : List ℕ) → FreshSmall 3 x → length a ≡ 64 → length b ≡ 64 → length c ≡ 1
      → let w = history x (write 0 a ∷ write 64 b ∷ write 0 c ∷ []) in
      (keycount_in w ≡ 1) × (journal_in w ≡ 3) × (counts_of w ≡ 4 ∷ 2 ∷ 2 ∷ [])
  -- "Fresh, same shape, 10 bytes at 60: keycount 0, journal 3."
  pub eleven : (x : Start) (a : List ℕ) → FreshSmall 1 x → length a ≡ 10
      → let w = history x (write 60 a ∷ []) in
      (keycount_in w ≡ 0) × (journal_in w ≡ 3)
  -- Document 02, Item 1: "document 01's sheet line, one of its flakes moved, says 50.00": three nuggets, one moved, two flakes
  pub twelve : shown 3 (record { moved = 1; flakes = 2; done = 1 }) ≡ 53 ∷ 48 ∷ 46 ∷ 48 ∷ 48 ∷ []
