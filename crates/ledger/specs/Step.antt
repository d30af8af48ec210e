-- How a call changes the ledger: nuggets, each in its way (write, sweep, discard), or the head alone (begin, finish).
use Rattle.std.specs.Prelude.{◌≡◌, true, false, ◌++◌, ℕ, ◌+◌, ◌^◌, ◌<◌, ◌≤◌}
use Rattle.words.specs.Xor.{xorl}
use Rattle.records.specs.declared.Record.{Record}
use Rattle.records.specs.declared.Way.{Way}
use Rattle.records.specs.declared.Way.TheVariants.{Idle, Add, Rekey, Clear}
use Rattle.records.specs.Journal.{bit, share_none}
use Rattle.records.specs.Record.{well_formed}
use Rattle.records.specs.Rule.{touched_by, cleared_by, enciphered, keycount_after, turned}
use Rattle.records.specs.Listing.{entry, pads_to}
use Rattle.ledger.specs.Totals.{risen}
use Rattle.ledger.specs.Ledger.{Kit, Ledger, gauge_in, secret_at, blank_flake}

-- the ways that keep every pad single: flakes are added where "J and T share none and its epoch is the head's"
unfoldable pub WayFits : ℕ → ℕ → Record → Way → Type 0
WayFits p head r Idle = Unit {0}
WayFits p head r (Add t) = (share_none r.spent t ≡ true) × (r.epoch ≡ head) × (t < 2 ^ p)
WayFits p head r (Rekey t) = t < 2 ^ p
WayFits p head r (Clear m) = Unit {0}

-- Nuggets change, each in its way. A touched flake may get any contents; a discarded one "counts as never written".
pub record Step (κ : Kit) (way : ℕ → Way) (l m : Ledger) : Type 0 where
  pub ways : (n : ℕ) → n < κ.n → WayFits κ.p l.epoch (l.records n) (way n)
  pub epochs : m.epoch ≡ l.epoch
  pub states : m.changing ≡ l.changing
  pub presents : m.present ≡ l.present
  pub olds : l.changing ≡ true → m.old ≡ l.old
  pub counts : m.counter ≡ l.counter + 1
  pub turns : (n : ℕ) → n < κ.n → m.records n ≡ turned (way n) l.epoch (l.records n)
  pub lists : m.listing ≡ l.listing ++ pads_to κ.p way l.records l.present κ.n
  pub retires : m.retired ≡ l.retired + risen κ.p κ.n l.records m.records
  pub enciphers : (n f : ℕ) → n < κ.n → f < κ.p → bit (enciphered (way n) (l.records n)) f ≡ true
      → m.stored n f ≡ xorl (m.plain n f) (κ.pad (entry n (keycount_after (way n) (l.records n)) f l.present))
  pub leaves : (n f : ℕ) → n < κ.n → f < κ.p → bit (enciphered (way n) (l.records n)) f ≡ false → m.stored n f ≡ l.stored n f
  pub untouched : (n f : ℕ) → n < κ.n → f < κ.p → bit (touched_by (way n)) f ≡ false → bit (cleared_by (way n)) f ≡ false → m.plain n f ≡ l.plain n f
  pub clears : (n f : ℕ) → n < κ.n → f < κ.p → bit (cleared_by (way n)) f ≡ true → m.plain n f ≡ blank_flake κ

-- no nugget changes
pub record Kept (κ : Kit) (l m : Ledger) : Type 0 where
  pub same_records : (n : ℕ) → n < κ.n → m.records n ≡ l.records n
  pub same_stored : (n f : ℕ) → n < κ.n → f < κ.p → m.stored n f ≡ l.stored n f
  pub same_plain : (n f : ℕ) → n < κ.n → f < κ.p → m.plain n f ≡ l.plain n f
  pub same_listing : m.listing ≡ l.listing
  pub same_retired : m.retired ≡ l.retired
  pub counter_up : l.counter ≤ m.counter

-- no nugget changes, and the new head fits the records and names their secrets as the old one did
pub record Calm (κ : Kit) (l m : Ledger) : Type 0 where
  pub kept : Kept κ l m
  pub still_formed : (n : ℕ) → n < κ.n → well_formed κ.p (gauge_in m) (l.records n) ≡ true
  pub same_secrets : (n : ℕ) → n < κ.n → secret_at m (l.records n).epoch ≡ secret_at l (l.records n).epoch

-- "Begin takes a new secret: state changing, epoch plus 1, the old secret kept."
pub record HeadBegun (l m : Ledger) : Type 0 where
  pub was_steady : l.changing ≡ false
  pub is_changing : m.changing ≡ true
  pub epoch_up : m.epoch ≡ l.epoch + 1
  pub old_kept : m.old ≡ l.present

-- "Finish makes the state steady": nothing is left
pub record HeadFinished (κ : Kit) (l m : Ledger) : Type 0 where
  pub none_left : (n : ℕ) → n < κ.n → (l.records n).epoch ≡ l.epoch
  pub epoch_kept : m.epoch ≡ l.epoch
  pub present_kept : m.present ≡ l.present
