-- Write, sweep and discard: a change of nuggets, each in its way, keeps what stays true.
use mathlib.Core.Path.{◌≡◌, refl, sym, ◌∙◌}
use mathlib.Core.Bool.{true, false}
use mathlib.Core.Logic.{◌⊎◌, inl, inr}
use mathlib.Core.List.{List, ◌++◌}
use Prim.Native.Nat.{ℕ, ◌+◌, ◌^◌, ◌<◌, ◌≤◌}
use native.Mathlib.Nat.{lt_of_lt_of_le}
use native.Mathlib.Omega.{arith}
use lib.Pow.{pow_mono}
use Rattle.base.proofs.PickLaws.{clash}
use Rattle.layout.specs.Parts.{record_at}
use Rattle.layout.proofs.Limits.{limits}
use Rattle.records.specs.declared.Record.{Record}
use Rattle.records.specs.declared.Way.{Way}
use Rattle.records.specs.declared.Way.TheVariants.{Idle, Add, Rekey, Clear}
use Rattle.records.specs.Journal.{bit}
use Rattle.records.specs.Record.{Codes, record_of}
use Rattle.records.specs.Rule.{touched_by, cleared_by, enciphered, held_after, turned, MayClear}
use Rattle.records.proofs.BitLaws.{bit-empty}
use Rattle.drive.specs.declared.Drive.{Drive}
use Rattle.drive.specs.declared.State.{State}
use Rattle.drive.specs.declared.State.TheVariants.{Steady, Changing}
use Rattle.drive.specs.Drive.{shape_of, gauge_of, is_changing, kept_old, zeros, counter_top}
use Rattle.changes.specs.Change.{pads_for, worked, advanced, settled}
use Rattle.changes.proofs.Each.{chosen}
use Rattle.changes.proofs.LaidLaws.{Long}
use Rattle.changes.proofs.PutLaws.{Same}
use Rattle.ledger.specs.Totals.{risen}
use Rattle.ledger.specs.Ledger.{Ledger}
use Rattle.ledger.specs.Step.{WayFits, Step}
use Rattle.ledger.proofs.StepLaws.{keeps}
use Rattle.ledger.proofs.OnwardLaws.{onward-step}
use Rattle.ledger.proofs.TurnLaws.{absent_untouched}
use Rattle.history.specs.World.{World}
use Rattle.history.specs.Step.{world_after}
use Rattle.history.specs.Demands.{plain_in}
use Rattle.history.proofs.Quiet.{untouched_lent}
use Rattle.ledger.proofs.Theorems.{keycounts-below}
use Rattle.history.proofs.View.{kit_of, view_of, ledger_of}
use Rattle.history.proofs.After.{Due, record_after, put-after, kept-after, untouched-after}
use Rattle.history.proofs.Sound.{Sound, Keeps, counter_room_lem}
use Rattle.records.proofs.RuleLaws.{formed-spent, formed-held, formed-epoch}
use Rattle.records.proofs.RecordLaws.{read_one}

-- a flake absent afterwards isn't enciphered
not_laid : (way : Way) (r : Record) (f : ℕ) → bit (held_after way r) f ≡ false → bit (enciphered way r) f ≡ false
unfolding held_after enciphered
not_laid Idle r f e = bit-empty f
not_laid (Add t) r f e = absent_untouched (Add t) r f e
not_laid (Rekey t) r f e = e
not_laid (Clear m) r f e = bit-empty f

kept_twice : (s : State) (a b : List ℕ) → kept_old s a ≡ b → kept_old s b ≡ b
kept_twice Steady a b e = e
kept_twice (Changing epoch) a b e = refl

kept_again : (s : State) (a b : List ℕ) → kept_old s a ≡ b → kept_old s a ≡ kept_old s b
kept_again s a b e = e ∙ sym (kept_twice s a b e)

pub kept-changing : (s : State) (a : List ℕ) → is_changing s ≡ true → kept_old s a ≡ a
kept-changing Steady a e = absurd (clash e refl)
kept-changing (Changing epoch) a e = refl

module _ (w : World) (x : Sound w) (way : ℕ → Way) (new : ℕ → ℕ → List ℕ) (after : ℕ → ℕ) where
  abbrev d : Drive
  d = w.drive

  abbrev v : List ℕ
  v = w.vol

  -- what the ways and the new contents have to be
  pub record Ready : Type 0 where
    pub fits : (n : ℕ) → n < w.drive.n → WayFits w.drive.p w.drive.epoch (record_of (shape_of w.drive) w.vol n) (way n)
    pub low : w.drive.counter ≡ counter_top → ⊥
    pub may : (n : ℕ) → n < w.drive.n → MayClear (shape_of w.drive) (way n)
    pub long : Long (shape_of w.drive) new
    pub news : (n f : ℕ) → n < w.drive.n → f < w.drive.p → chosen way (record_of (shape_of w.drive) w.vol) n f ≡ true
        → new n f ≡ plain_in (shape_of w.drive) after n f
    pub gone : (n f : ℕ) → n < w.drive.n → f < w.drive.p → bit (cleared_by (way n)) f ≡ true → plain_in (shape_of w.drive) after n f ≡ zeros w.drive.f
    pub rest : (n f : ℕ) → n < w.drive.n → f < w.drive.p → bit (touched_by (way n)) f ≡ false → bit (cleared_by (way n)) f ≡ false
        → plain_in (shape_of w.drive) after n f ≡ plain_in (shape_of w.drive) w.contents n f

  below : (n : ℕ) → n < d.n → (record_of (shape_of d) v n).keycount ≤ d.counter
  below = keycounts-below (kit_of d) (ledger_of w) x.inv

  -- the records are told by their bytes, by the invariant
  codes : (n : ℕ) → n < d.n → Codes (shape_of d) (record_of (shape_of d) v n)
  codes n h =
      let formed = x.inv.formed n h in
      let wide = pow_mono (limits (shape_of d) (untouched_lent d v x.untouched).limited).narrow in
      record {
        keycount_width = omega (arith, below n h, x.handed.counter_lt);
        spent_width = lt_of_lt_of_le (formed-spent d.p (gauge_of d) (record_of (shape_of d) v n) formed) wide;
        held_width = lt_of_lt_of_le (formed-held d.p (gauge_of d) (record_of (shape_of d) v n) formed) wide;
        epoch_width = low (formed-epoch d.p (gauge_of d) (record_of (shape_of d) v n) formed);
        one_mask = read_one (shape_of d) v (record_at (shape_of d) n);
      }
    where
      low : ((record_of (shape_of d) v n).epoch ≡ d.epoch) ⊎ ((is_changing d.state ≡ true) × ((record_of (shape_of d) v n).epoch + 1 ≡ d.epoch)) → (record_of (shape_of d) v n).epoch < 2 ^ 16
      low (inl e) = omega (arith, e, x.handed.epoch_lt)
      low (inr e) = omega (arith, e.1, x.handed.epoch_lt)

  module _ (r : Ready) where
    due : Due d v way new
    due =
        record {
          was = x.untouched;
          salted = x.handed.salt_long_lem;
          epoch_low = x.handed.epoch_lt;
          kept = kept_twice d.state w.old d.old x.handed.kept;
          fits = r.fits;
          codes = codes;
          room = λ n h e. omega (arith, below n h, x.handed.counter_lt, r.low);
          may = r.may;
          long = r.long;
        }

    -- each record is the one turned in its nugget's way
    pub worked-turns : (n : ℕ) → n < w.drive.n
        → record_of (shape_of d) (settled (advanced w.drive (worked w.drive w.vol way new)) (worked w.drive w.vol way new)) n
        ≡ turned (way n) w.drive.epoch (record_of (shape_of w.drive) w.vol n)
    worked-turns n h = record_after d v way new due n h

    -- and a flake that isn't enciphered is as it was, and so is its tag
    pub worked_same : (n f : ℕ) → n < w.drive.n → f < w.drive.p → chosen way (record_of (shape_of w.drive) w.vol) n f ≡ false
        → Same (shape_of w.drive) n f w.vol (settled (advanced w.drive (worked w.drive w.vol way new)) (worked w.drive w.vol way new))
    worked_same n f h l off = kept-after d v way new due n f h l off

    abbrev e : Drive
    e = advanced d (worked d v way new)

    abbrev z : List ℕ
    z = settled e (worked d v way new)

    after_work : Ledger
    after_work = view_of e z (w.listing ++ pads_for d v way) (w.retired + risen d.p d.n (record_of (shape_of d) v) (record_of (shape_of d) z)) after

    moves : Step (kit_of d) way (ledger_of w) after_work
    unfolding after_work advanced
    moves =
        record {
          ways = r.fits;
          epochs = refl;
          states = refl;
          presents = refl;
          olds = λ changing. kept-changing d.state d.old changing;
          counts = refl;
          turns = worked-turns;
          lists = refl;
          retires = refl;
          enciphers = λ n f a b on. rw (← r.news n f a b on) (put-after d v way new due n f a b on).stored;
          leaves = λ n f a b off. (kept-after d v way new due n f a b off).stored;
          untouched = r.rest;
          clears = r.gone;
        }

    pub worked_keeps : Keeps w (world_after w (advanced d (worked d v way new)) (settled (advanced d (worked d v way new)) (worked d v way new)) (pads_for d v way) w.secret w.old after)
    unfolding world_after after_work advanced
    worked_keeps =
        record {
          sound = record {
            untouched = untouched-after d v way new due;
            handed = record {
              epoch_lt = x.handed.epoch_lt;
              counter_lt = counter_room_lem d.counter x.handed.counter_lt r.low;
              salt_long_lem = x.handed.salt_long_lem;
              kept = kept_again d.state w.old d.old x.handed.kept;
            };
            present = x.present;
            counter = refl;
            inv = keeps (kit_of d) way (ledger_of w) after_work x.inv moves;
          };
          onward = onward-step (kit_of d) way (ledger_of w) after_work moves;
          rests = λ n f h l gone. kept-after d v way new due n f h l (not_laid (way n) (record_of (shape_of d) v n) f (rw (worked-turns n h) at gone));
        }
