-- From one point of a drive's life to a later one.
use Rattle.std.specs.Prelude.{◌≡◌, true, ℕ, ◌<◌, ◌≤◌}
use Rattle.records.specs.Journal.{bit}
use Rattle.ledger.specs.Ledger.{Kit, Ledger}

-- No keycount falls; and while a nugget keeps its keycount a spent flake stays spent, and stays to the byte: no pad is
-- laid over other contents.
pub record Onward (κ : Kit) (l m : Ledger) : Type 0 where
  pub rises : (n : ℕ) → n < κ.n → (l.records n).keycount ≤ (m.records n).keycount
  pub stays : (n f : ℕ) → n < κ.n → f < κ.p → bit (l.records n).spent f ≡ true → (m.records n).keycount ≡ (l.records n).keycount
      → (bit (m.records n).spent f ≡ true) × (m.stored n f ≡ l.stored n f)
