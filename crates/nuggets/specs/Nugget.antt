-- What the tests and the contents of one nugget rest on, and what its flakes read as.
use Rattle.std.specs.Prelude.{ℕ, List, eqb, get_or}
use Rattle.base.specs.Pick.{pick}
use Rattle.base.specs.Lists.{part}
use Rattle.layout.specs.declared.Shape.{Shape}
use Rattle.layout.specs.Parts.{flake_at}
use Rattle.layout.specs.Spots.{spot_at}
use Rattle.records.specs.Journal.{bit}
use Rattle.records.specs.Listing.{Entry}
use Rattle.keys.specs.declared.Lock.{Lock}
use Rattle.keys.specs.Keys.{nugget_key}
use Rattle.keys.specs.Pads.{under}
use Rattle.drive.specs.declared.Drive.{Drive}
use Rattle.drive.specs.Drive.{shape_of, zeros}
use Rattle.nuggets.specs.declared.Nugget.{Nugget}
use Rattle.records.specs.Record.{record_of}

-- "its epoch is the head's, or, while changing, the head's or one less. [..] One less means: under the old secret."
unfoldable pub secret_for : Drive → ℕ → List ℕ
secret_for d e = pick (eqb e d.epoch) d.present d.old

-- under what the flakes of nugget n lie at keycount k: "Nugget key: keyed with the nugget's secret, `N`, salt, nugget (4 bytes)."
abbrev pub lock_by : Shape → List ℕ → List ℕ → ℕ → ℕ → Lock
lock_by s salt secret n k = record { number = n; key = nugget_key secret salt n; keycount = k; version = s.version; cipher = s.cipher }

-- the lock of an enciphering
abbrev pub lock_of : Shape → List ℕ → Entry → Lock
lock_of s salt e = lock_by s salt e.secret e.nugget e.keycount

-- the lock of a nugget by its record
abbrev pub lock_for : Drive → List ℕ → ℕ → Lock
lock_for d v n = let r = record_of (shape_of d) v n in lock_by (shape_of d) d.salt (secret_for d r.epoch) n r.keycount

abbrev pub nugget_of : Drive → List ℕ → ℕ → Nugget
nugget_of d v n = record { lock = lock_for d v n; held = (record_of (shape_of d) v n).held }

-- the F bytes that stand for a flake in the volume
abbrev pub stored_in : Shape → List ℕ → ℕ → ℕ → List ℕ
stored_in s v n f = part (flake_at s n f) s.f v

-- what a flake reads as: "Stored flake = contents xor pad."; "Absent flakes give zeros."
unfoldable pub contents_in : Shape → List ℕ → Nugget → ℕ → List ℕ
contents_in s v g f = pick (bit g.held f) (under g.lock f s.f (stored_in s v g.lock.number f)) (zeros s.f)

abbrev pub contents_of : Drive → List ℕ → ℕ → ℕ → List ℕ
contents_of d v n f = contents_in (shape_of d) v (nugget_of d v n) f

-- the byte at an offset into the contents
unfoldable pub byte_of : Drive → List ℕ → ℕ → ℕ
byte_of d v a = let at = spot_at (shape_of d) a in get_or (contents_of d v at.nugget at.flake) at.byte 0
