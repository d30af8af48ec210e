-- Document 01: "The open drive is one record that the calls change where it stands".
use Rattle.std.specs.Prelude.{ℕ, ◌-◌, ◌^◌, Bool, true, false, List, replicate}
use Rattle.layout.specs.declared.Shape.{Shape}
use Rattle.layout.specs.Shape.{shape_as}
use Rattle.records.specs.declared.Gauge.{Gauge}
use Rattle.records.specs.Record.{against}
use Rattle.drive.specs.declared.Drive.{Drive}
use Rattle.drive.specs.declared.State.{State}
use Rattle.drive.specs.declared.State.TheVariants.{Steady, Changing}

-- the drive's shape, under its version and cipher
abbrev pub shape_of : Drive → Shape
shape_of d = shape_as d.version d.cipher d.n d.p d.f

abbrev pub is_changing : State → Bool
is_changing Steady = false
is_changing (Changing left) = true

-- what the drive's records are held against: its epoch, whether it is changing, and its counter
abbrev pub gauge_of : Drive → Gauge
gauge_of d = against d.epoch (is_changing d.state) d.counter

abbrev pub zeros : ℕ → List ℕ
zeros n = replicate n 0

-- "the blank drive: every field zero, steady"
unfoldable pub blank_drive : Drive
blank_drive =
    record {
      n = 0;
      p = 0;
      f = 0;
      version = 0;
      cipher = 0;
      salt = zeros 16;
      state = Steady;
      epoch = 0;
      counter = 0;
      node = zeros 32;
      present = zeros 32;
      old = zeros 32;
    }

-- the drive under another head: its shape and its salt stay
abbrev pub headed : Drive → State → ℕ → ℕ → List ℕ → List ℕ → List ℕ → Drive
headed d state epoch counter node present old =
    record {
      n = d.n;
      p = d.p;
      f = d.f;
      version = d.version;
      cipher = d.cipher;
      salt = d.salt;
      state = state;
      epoch = epoch;
      counter = counter;
      node = node;
      present = present;
      old = old;
    }

-- "Keycount and counter: 0 to 2^64 - 1."
abbrev pub counter_top : ℕ
counter_top = 2 ^ 64 - 1

-- "an accepted change or mount leaves zeros there": the old secret that a state keeps
abbrev pub kept_old : State → List ℕ → List ℕ
kept_old Steady old = zeros 32
kept_old (Changing left) old = old
