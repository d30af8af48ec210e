-- How often a call stores a byte of the volume. Each statement is proved, under the same name in small letters, in proofs/Once.antt.
use Rattle.std.specs.Prelude.{ℕ, ◌+◌, ◌<◌, ◌≤◌, ◌≡◌, true, ◌⊎◌, List, [], ◌∷◌, leb, ltb, length}
use Rattle.base.specs.Pick.{pick, both}
use Rattle.layout.specs.Parts.{tree_at, flakes_at}
use Rattle.drive.specs.Drive.{shape_of}
use Rattle.changes.specs.Change.{idles}
use Rattle.changes.specs.Write.{write_way}
use Rattle.history.specs.World.{Call, write, sweep, discard}
use Rattle.history.specs.History.{Start, history}
use Rattle.stores.specs.Store.{Store}
use Rattle.stores.specs.Calls.{stores_of}

-- 1 if a is one of the places from low up to, but not with, high
unfoldable pub hits : ℕ → ℕ → ℕ → ℕ
hits low high a = pick (both (leb low a) (ltb a high)) 1 0

-- how many stores of the list store byte a
unfoldable pub stored_times : List Store → ℕ → ℕ
stored_times [] a = 0
stored_times (x ∷ xs) a = hits x.at (x.at + length x.bytes) a + stored_times xs a

-- Over every history: no call stores a byte twice, but in the tree, where the paths of two nuggets meet.
abbrev pub StoredOnce : Type 0
StoredOnce =
    (start : Start) (calls : List Call) (c : Call) (a : ℕ)
    → let w = history start calls in
    (a < tree_at (shape_of w.drive)) ⊎ (flakes_at (shape_of w.drive) ≤ a) → stored_times (stores_of w c) a ≤ 1

-- A sweep stores no byte twice.
abbrev pub SweepOnce : Type 0
SweepOnce = (start : Start) (calls : List Call) (n a : ℕ) → stored_times (stores_of (history start calls) (sweep n)) a ≤ 1

-- Nor does a discard.
abbrev pub DiscardOnce : Type 0
DiscardOnce = (start : Start) (calls : List Call) (n first count a : ℕ) → stored_times (stores_of (history start calls) (discard n first count)) a ≤ 1

-- Nor does a write that changes one nugget.
abbrev pub WriteOnce : Type 0
WriteOnce =
    (start : Start) (calls : List Call) (o : ℕ) (bytes : List ℕ) (n a : ℕ)
    → let w = history start calls in
    ((m : ℕ) → (m ≡ n → ⊥) → idles (write_way w.drive w.vol o (length bytes) m) ≡ true) → stored_times (stores_of w (write o bytes)) a ≤ 1
