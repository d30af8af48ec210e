-- The rule of a change on one nugget: what becomes of its record, and which flakes are enciphered under which keycount.
use Rattle.std.specs.Prelude.{ℕ, ◌+◌, ◌-◌, ◌^◌, ◌<◌, ◌≡◌, Bool, true, false, eqb}
use Rattle.base.specs.Pick.{pick, both}
use Rattle.records.specs.declared.Record.{Record}
use Rattle.records.specs.declared.Way.{Way}
use Rattle.records.specs.declared.Way.TheVariants.{Idle, Add, Rekey, Clear}
use Rattle.layout.specs.declared.Shape.{Shape}
use Rattle.layout.specs.Shape.{is_one}
use Rattle.records.specs.Journal.{union, without, share_none}

-- Write: "For each nugget let T be the flakes touched and J its journal. If J and T share none and its epoch is the
-- head's, the flakes of T are enciphered under the present keycount. Otherwise the nugget is rekeyed".
-- A nugget with no flake touched stays as it is. Document 02, Item 4: what is present "reads as spent [..] in the test of T
-- against J, as held elsewhere".
unfoldable pub way_of : Record → ℕ → ℕ → Way
way_of r t head =
    pick (eqb t 0) Idle
    (pick (both (share_none r.spent t) (eqb r.epoch head)) (Add t) (Rekey t))

-- Sweep "takes a nugget and rekeys it with T empty."
abbrev pub sweep_way : Way
sweep_way = Rekey 0

-- T, "the flakes touched"
abbrev pub touched_by : Way → ℕ
touched_by Idle = 0
touched_by (Add t) = t
touched_by (Rekey t) = t
touched_by (Clear m) = 0

-- document 02, Item 4: discard "clears held bits only", those of these flakes
abbrev pub cleared_by : Way → ℕ
cleared_by Idle = 0
cleared_by (Add t) = 0
cleared_by (Rekey t) = 0
cleared_by (Clear m) = m

-- "the nugget is rekeyed"
abbrev pub rekeys : Way → Bool
rekeys Idle = false
rekeys (Add t) = false
rekeys (Rekey t) = true
rekeys (Clear m) = false

-- "the flakes of T are enciphered"; rekeyed: "every flake of J and T enciphered afresh"
unfoldable pub enciphered : Way → Record → ℕ
enciphered Idle r = 0
enciphered (Add t) r = t
enciphered (Rekey t) r = union r.held t
enciphered (Clear m) r = 0

-- "under the present keycount"; rekeyed: "keycount plus 1"
unfoldable pub keycount_after : Way → Record → ℕ
keycount_after way r = pick (rekeys way) (r.keycount + 1) r.keycount

-- "The journal becomes J with T."; a discard "clears held bits only"
unfoldable pub held_after : Way → Record → ℕ
held_after Idle r = r.held
held_after (Add t) r = union r.held t
held_after (Rekey t) r = union r.held t
held_after (Clear m) r = without r.held m

-- Document 02, Item 4: "A rekey [..] sets both masks to those; a write without one adds T to both."; discarded, "the pad stays spent"
unfoldable pub spent_after : Way → Record → ℕ
spent_after Idle r = r.spent
spent_after (Add t) r = union r.spent t
spent_after (Rekey t) r = union r.held t
spent_after (Clear m) r = r.spent

-- rekeyed: "epoch set to the head's"
unfoldable pub epoch_after : Way → ℕ → Record → ℕ
epoch_after way head r = pick (rekeys way) head r.epoch

-- the record afterwards
abbrev pub turned : Way → ℕ → Record → Record
turned way head r = record { keycount = keycount_after way r; spent = spent_after way r; held = held_after way r; epoch = epoch_after way head r }

-- what "keycount plus 1" asks of eight bytes: a nugget that is rekeyed isn't at its keycount's top
abbrev pub CanRise : Way → Record → Type 0
CanRise way r = rekeys way ≡ true → r.keycount < 2 ^ 64 - 1

-- in version 1, with one mask for both, no held bit is cleared
abbrev pub MayClear : Shape → Way → Type 0
MayClear s way = is_one s ≡ true → cleared_by way ≡ 0
