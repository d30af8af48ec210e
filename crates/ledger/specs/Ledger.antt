-- A drive's life without its bytes: its head's numbers, its records, and for each flake what is stored and what was last written.
use Rattle.std.specs.Prelude.{Bool, List, ℕ, eqb, replicate}
use Rattle.base.specs.Pick.{pick}
use Rattle.words.specs.Xor.{xorl}
use Rattle.records.specs.declared.Record.{Record}
use Rattle.records.specs.declared.Gauge.{Gauge}
use Rattle.records.specs.Journal.{bit}
use Rattle.records.specs.Record.{against}
use Rattle.records.specs.Listing.{Entry, entry}

-- What never changes: N, P, F, and the pad of an entry. Nothing is asked of the pads: xor undoes itself whatever they are,
-- so every cipher that lays a pad over contents is a case of it.
pub record Kit : Type 0 where
  pub n : ℕ
  pub p : ℕ
  pub size : ℕ
  pub pad : Entry → List ℕ

-- `stored` and `plain` are by nugget and flake
pub record Ledger : Type 0 where
  pub epoch : ℕ
  pub changing : Bool
  pub counter : ℕ
  pub present : List ℕ
  pub old : List ℕ
  pub records : ℕ → Record
  pub stored : ℕ → ℕ → List ℕ
  pub plain : ℕ → ℕ → List ℕ
  pub listing : List Entry
  pub retired : ℕ

-- what its records are held against
abbrev pub gauge_in : Ledger → Gauge
gauge_in l = against l.epoch l.changing l.counter

-- "its epoch is the head's, or, while changing, the head's or one less. [..] One less means: under the old secret."
unfoldable pub secret_at : Ledger → ℕ → List ℕ
secret_at l e = pick (eqb e l.epoch) l.present l.old

-- the entry that a present flake lies under: its nugget's keycount, and the secret of its nugget's epoch
abbrev pub entry_at : Ledger → ℕ → ℕ → Entry
entry_at l n f = entry n (l.records n).keycount f (secret_at l (l.records n).epoch)

-- "Absent flakes give zeros."
abbrev pub blank_flake : Kit → List ℕ
blank_flake κ = replicate κ.size 0

-- what a flake reads as: "Stored flake = contents xor pad."
unfoldable pub contents : Kit → Ledger → ℕ → ℕ → List ℕ
contents κ l n f = pick (bit (l.records n).held f) (xorl (l.stored n f) (κ.pad (entry_at l n f))) (blank_flake κ)
