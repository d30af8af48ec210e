-- Every change goes onward: with no nugget changed, and with nuggets changed each in its way, one after another.
use mathlib.Core.Path.{◌≡◌, refl, sym, ap, ◌∙◌}
use mathlib.Core.Bool.{Bool, true, false}
use mathlib.Core.Logic.{◌⊎◌, inl, inr}
use Prim.Native.Nat.{ℕ, ◌<◌}
use native.Mathlib.Omega.{arith}
use Rattle.base.specs.Pick.{both}
use Rattle.base.proofs.PickLaws.{either_left}
use Rattle.records.specs.declared.Record.{Record}
use Rattle.records.specs.declared.Way.{Way}
use Rattle.records.specs.Journal.{bit}
use Rattle.records.specs.Rule.{enciphered, turned}
use Rattle.records.proofs.RuleLaws.{keycount-rises}
use Rattle.ledger.specs.Ledger.{Kit, Ledger}
use Rattle.ledger.specs.Step.{Step, Kept}
use Rattle.ledger.specs.Onward.{Onward}
use Rattle.ledger.proofs.TurnLaws.{Adds, Rekeyed, turn-told}

pub onward_trans : (κ : Kit) (l m o : Ledger) → Onward κ l m → Onward κ m o → Onward κ l o
onward_trans κ l m o x y =
    record {
      rises = λ n h. omega (arith, x.rises n h, y.rises n h);
      stays = λ n f h few on same.
          let there = x.stays n f h few on (omega (arith, same, x.rises n h, y.rises n h)) in
          let after = y.stays n f h few there.0 (omega (arith, same, x.rises n h, y.rises n h)) in
          (after.0, after.1 ∙ there.1);
    }

pub onward-same : (κ : Kit) (l : Ledger) → Onward κ l l
onward-same κ l = record { rises = λ n h. omega arith; stays = λ n f h few on same. (on, refl) }

pub onward-kept : (κ : Kit) (l m : Ledger) → Kept κ l m → Onward κ l m
onward-kept κ l m k =
    record {
      rises = λ n h. rw (k.same_records n h) (omega arith);
      stays = λ n f h few on same. (rw (k.same_records n h) on, k.same_stored n f h few);
    }

-- a flake that is spent isn't enciphered where the keycount stays
off : (a b : Bool) → both a b ≡ false → a ≡ true → b ≡ false
off true b e t = e
off false b e t = cc

module _ (κ : Kit) (way : ℕ → Way) (l m : Ledger) (step : Step κ way l m) where
  pub onward-step : Onward κ l m
  onward-step =
      record {
        rises = λ n h. rw (step.turns n h) (keycount-rises (way n) (l.records n));
        stays = λ n f h few on same.
            go n f h few on (sym (ap (λ (r : Record). r.keycount) (step.turns n h)) ∙ same)
            (turn-told κ.p l.epoch (l.records n) (way n) (step.ways n h));
      }
    where
      go : (n f : ℕ) → n < κ.n → f < κ.p → bit (l.records n).spent f ≡ true
          → (turned (way n) l.epoch (l.records n)).keycount ≡ (l.records n).keycount
          → Adds l.epoch (way n) (l.records n) ⊎ Rekeyed l.epoch (way n) (l.records n)
          → (bit (m.records n).spent f ≡ true) × (m.stored n f ≡ l.stored n f)
      go n f h few on same (inl a) = (
        rw (step.turns n h, a.joined f) (either_left (bit (enciphered (way n) (l.records n)) f) on),
        step.leaves n f h few (off (bit (l.records n).spent f) (bit (enciphered (way n) (l.records n)) f) (a.apart f) on),
      )
      go n f h few on same (inr a) = absurd (omega (arith, same, a.keycount_up))
