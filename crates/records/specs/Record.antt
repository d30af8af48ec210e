-- Document 01, Records: "keycount 8, journal 8, epoch 2". Document 02, Item 4: "26-byte records: keycount, *spent* bits, *held*
-- bits, epoch". In version 1 the journal is both.
use Prim.{tt}
use Rattle.std.specs.Prelude.{ℕ, ◌+◌, ◌^◌, ◌<◌, Bool, true, false, ◌≡◌, List, [], ◌∷◌, eqb, leb, ltb}
use Rattle.base.specs.Pick.{both, either}
use Rattle.layout.specs.declared.Shape.{Shape}
use Rattle.layout.specs.Shape.{is_one}
use Rattle.layout.specs.Parts.{record_at}
use Rattle.codec.specs.Row.{Field, number, Values, ◌&◌, row, row_in}
use Rattle.records.specs.declared.Record.{Record}
use Rattle.records.specs.declared.Gauge.{Gauge}
use Rattle.records.specs.Journal.{lies_in}

-- the fields of version 1, and of a later one
abbrev pub record_row : Bool → List Field
record_row true = number 8 ∷ number 8 ∷ number 2 ∷ []
record_row false = number 8 ∷ number 8 ∷ number 8 ∷ number 2 ∷ []

abbrev pub record_values : (one : Bool) → Record → Values (record_row one)
record_values true r = r.keycount & r.held & r.epoch & tt
record_values false r = r.keycount & r.spent & r.held & r.epoch & tt

abbrev pub record_from : (one : Bool) → Values (record_row one) → Record
record_from true (k, (m, (e, _))) = record { keycount = k; spent = m; held = m; epoch = e }
record_from false (k, (s, (h, (e, _)))) = record { keycount = k; spent = s; held = h; epoch = e }

-- the bytes of a record
unfoldable pub record_bytes : Shape → Record → List ℕ
record_bytes s r = row (record_row (is_one s)) (record_values (is_one s) r)

-- the record whose bytes stand at a place of a list
unfoldable pub record_in : Shape → ℕ → List ℕ → Record
record_in s at v = record_from (is_one s) (row_in (record_row (is_one s)) at 0 v)

-- record n of a volume
abbrev pub record_of : Shape → List ℕ → ℕ → Record
record_of s v n = record_in s (record_at s n) v

-- what a record is held against
abbrev pub against : ℕ → Bool → ℕ → Gauge
against epoch changing counter = record { epoch = epoch; changing = changing; counter = counter }

-- "no bit at or above P is set"
abbrev pub none_from : ℕ → ℕ → Bool
none_from p j = ltb j (2 ^ p)

-- "its epoch is the head's, or, while changing, the head's or one less"
abbrev pub epoch_fits : Gauge → ℕ → Bool
epoch_fits gauge e = either (eqb e gauge.epoch) (both gauge.changing (eqb (e + 1) gauge.epoch))

-- document 02, Item 7: "A record whose keycount is above the head's counter is ill formed."
abbrev pub not_above : Gauge → ℕ → Bool
not_above gauge k = leb k gauge.counter

-- "A record is well formed if no bit at or above P is set and its epoch is the head's, or, while changing, the head's or one less."
-- Document 02, Item 4: "An ill-formed record now includes a held bit that isn't spent." In version 1 there is none.
unfoldable pub well_formed : ℕ → Gauge → Record → Bool
well_formed p gauge r = both (none_from p r.spent) (both (lies_in r.held r.spent) (both (epoch_fits gauge r.epoch) (not_above gauge r.keycount)))

-- each field is within its width, and a record of version 1 has one mask for both
pub record Codes (s : Shape) (r : Record) : Type 0 where
  pub keycount_width : r.keycount < 2 ^ 64
  pub spent_width : r.spent < 2 ^ 64
  pub held_width : r.held < 2 ^ 64
  pub epoch_width : r.epoch < 2 ^ 16
  pub one_mask : is_one s ≡ true → r.spent ≡ r.held
