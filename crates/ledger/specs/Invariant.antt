-- What stays true of the ledger through every call.
use Rattle.std.specs.Prelude.{◌≡◌, true, false, List, [], ℕ, ◌+◌, ◌<◌, ◌≤◌, length}
use Rattle.std.proofs.Math.Option.{some}
use Rattle.words.specs.Xor.{xorl}
use Rattle.records.specs.declared.Record.{Record}
use Rattle.records.specs.Journal.{bit}
use Rattle.records.specs.Record.{well_formed}
use Rattle.records.specs.Listing.{Entry}
use Rattle.ledger.specs.Listing.{one, times, last_of}
use Rattle.ledger.specs.Totals.{spent_in}
use Rattle.ledger.specs.Ledger.{Kit, Ledger, gauge_in, entry_at, blank_flake}

pub record Inv (κ : Kit) (l : Ledger) : Type 0 where
  -- "No entry comes twice."; none is of a nugget or a flake that isn't there
  pub once : (n k f : ℕ) → times n k f l.listing ≤ 1
  pub past : (n k f : ℕ) → κ.n ≤ n → times n k f l.listing ≡ 0
  pub wide : (n k f : ℕ) → κ.p ≤ f → times n k f l.listing ≡ 0
  -- above a nugget's keycount nothing is listed yet, and at it exactly the spent flakes are
  pub fresh : (n k f : ℕ) → n < κ.n → (l.records n).keycount < k → times n k f l.listing ≡ 0
  pub now : (n f : ℕ) → n < κ.n → times n (l.records n).keycount f l.listing ≡ one (bit (l.records n).spent f)
  -- "A record is well formed": so no keycount is above the counter
  pub formed : (n : ℕ) → n < κ.n → well_formed κ.p (gauge_in l) (l.records n) ≡ true
  -- "Each present flake is its contents under the pad last listed for it."
  pub named : (n f : ℕ) → n < κ.n → bit (l.records n).held f ≡ true → last_of n f l.listing ≡ some (entry_at l n f)
  pub laid : (n f : ℕ) → n < κ.n → bit (l.records n).held f ≡ true → l.stored n f ≡ xorl (l.plain n f) (κ.pad (entry_at l n f))
  -- "A place never written reads as zero."
  pub blank : (n f : ℕ) → n < κ.n → f < κ.p → bit (l.records n).held f ≡ false → l.plain n f ≡ blank_flake κ
  -- "Entries listed equal flakes now present plus, for each keycount rise, its nugget's flakes present just before."
  pub tally : length l.listing ≡ spent_in κ.p κ.n l.records + l.retired

-- a drive just formatted: "Everything is zero but the head and tree; epochs are 1"
pub record Fresh (κ : Kit) (l : Ledger) : Type 0 where
  pub empty : (n : ℕ) → n < κ.n → ◌≡◌ {A = Record} (l.records n) (record { keycount = 0; spent = 0; held = 0; epoch = l.epoch })
  pub zeros : (n f : ℕ) → n < κ.n → f < κ.p → l.plain n f ≡ blank_flake κ
  pub unlisted : ◌≡◌ {A = List Entry} l.listing []
  pub unretired : l.retired ≡ 0
