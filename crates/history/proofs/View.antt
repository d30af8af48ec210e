-- The ledger read off the bytes: records, stored flakes and head's numbers of a drive and its volume.
use mathlib.Core.Path.{◌≡◌, refl, ◌∙◌}
use mathlib.Core.List.{List}
use Prim.Native.Nat.{ℕ, ◌<◌}
use Rattle.records.specs.Listing.{Entry}
use Rattle.keys.specs.Pads.{pad_of}
use Rattle.drive.specs.declared.Drive.{Drive}
use Rattle.drive.specs.Drive.{shape_of, is_changing}
use Rattle.nuggets.specs.Nugget.{secret_for, lock_of, stored_in, contents_in, contents_of}
use Rattle.ledger.specs.Ledger.{Kit, Ledger, secret_at, contents}
use Rattle.ledger.specs.Invariant.{Inv}
use Rattle.ledger.proofs.Theorems.{finds}
use Rattle.history.specs.World.{World}
use Rattle.history.specs.Demands.{plain_in}
use Rattle.records.specs.Record.{record_of}

-- the pad of an entry is that of its lock
abbrev pub kit_of : Drive → Kit
kit_of d = record { n = d.n; p = d.p; size = d.f; pad = λ e. pad_of (lock_of (shape_of d) d.salt e) e.flake d.f }

abbrev pub view_of : Drive → List ℕ → List Entry → ℕ → (ℕ → ℕ) → Ledger
view_of d v listing retired contents =
    record {
      epoch = d.epoch;
      changing = is_changing d.state;
      counter = d.counter;
      present = d.present;
      old = d.old;
      records = record_of (shape_of d) v;
      stored = stored_in (shape_of d) v;
      plain = plain_in (shape_of d) contents;
      listing = listing;
      retired = retired;
    }

abbrev pub ledger_of : World → Ledger
ledger_of w = view_of w.drive w.vol w.listing w.retired w.contents

module _ (d : Drive) (v : List ℕ) (listing : List Entry) (retired : ℕ) (plain : ℕ → ℕ) where
  -- a nugget's secret, and what a flake reads as, are the ledger's
  pub secret_seen : (e : ℕ) → secret_at (view_of d v listing retired plain) e ≡ secret_for d e
  unfolding secret_at secret_for
  secret_seen e = refl

  contents_seen : (n f : ℕ) → contents_of d v n f ≡ contents (kit_of d) (view_of d v listing retired plain) n f
  unfolding contents_in contents secret_at secret_for
  contents_seen n f = refl

  -- so a flake reads as what was written
  pub reads_plain : Inv (kit_of d) (view_of d v listing retired plain) → (n f : ℕ) → n < d.n → f < d.p → contents_of d v n f ≡ plain_in (shape_of d) plain n f
  reads_plain inv n f a b = contents_seen n f ∙ finds (kit_of d) (view_of d v listing retired plain) inv n f a b
