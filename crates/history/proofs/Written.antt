-- A write that fits, below the counter's top: it is accepted, and this is what the user holds after it.
use mathlib.Core.Path.{◌≡◌, refl, ap, ◌∙◌}
use mathlib.Core.Bool.{Bool, true, false}
use mathlib.Core.List.{List, ◌++◌}
use Prim.Native.Nat.{ℕ, ◌+◌, ◌<◌, ◌≤◌}
use native.Mathlib.Omega.{arith}
use lib.Dec.{eqb, ltb}
use lib.ListN.{length}
use borrow.Author.Tests.{le-leb, lt-ltb, ltb-true, ne_eqb}
use Rattle.base.specs.Pick.{pick}
use Rattle.base.proofs.PickLaws.{yes, no, both_left, both_right, both-on}
use Rattle.answers.specs.Answer.{Answer}
use Rattle.answers.specs.Answer as A
use Rattle.answers.specs.Numbers.{accepts}
use Rattle.layout.specs.Spots.{capacity}
use Rattle.records.specs.Rule.{turned}
use Rattle.drive.specs.Drive.{shape_of, counter_top}
use Rattle.records.specs.Record.{record_of}
use Rattle.changes.specs.Laid.{over}
use Rattle.changes.specs.Change.{pads_for, advanced}
use Rattle.changes.specs.Write.{write_way, writes, written_drive, write_done, write_volume, write_pads}
use Rattle.changes.proofs.AnswerLaws.{write-told}
use Rattle.history.specs.World.{World, write}
use Rattle.history.specs.Step.{answer_to, world_after, step}
use Rattle.history.proofs.Sound.{Sound}
use Rattle.history.proofs.Table.{exactly}
use Rattle.history.proofs.Ways.{written-turns}

-- accepted either way
pub alike : (b : Bool) {a : Answer} → a ≡ A.Accepted → pick b A.Accepted a ≡ A.Accepted
alike true e = refl
alike false e = e

-- after an accepted write of some bytes each record is the one turned in its nugget's way
module _ (w : World) (x : Sound w) (o : ℕ) (bytes : List ℕ) (taken : writes (answer_to w (write o bytes)) bytes ≡ true) where
  pub turned_by : (n : ℕ) → n < w.drive.n
      → record_of (shape_of (step w (write o bytes)).drive) (step w (write o bytes)).vol n ≡ turned (write_way w.drive w.vol o (length bytes) n) w.drive.epoch (record_of (shape_of w.drive) w.vol n)
  unfolding step world_after write_volume write_done advanced
  turned_by n h =
      let accepted = both_left (accepts (answer_to w (write o bytes))) (ltb 0 (length bytes)) taken in
      let some = ltb-true 0 (length bytes) (both_right (accepts (answer_to w (write o bytes))) (ltb 0 (length bytes)) taken) in
      rw taken
      (written-turns w x o bytes (write-told w.drive w.vol o (length bytes) some accepted) (λ a. over o bytes a (w.contents a)) (λ a. refl) n h)

module _ (w : World) (x : Sound w) (low : w.drive.counter < counter_top) where
  module _ (o : ℕ) (bytes : List ℕ) (fits : o + length bytes ≤ capacity (shape_of w.drive)) where
    pub write-accepted : answer_to w (write o bytes) ≡ A.Accepted
    write-accepted =
        exactly w x (write o bytes)
        ∙ yes _ (le-leb (o + length bytes) (capacity (shape_of w.drive)) fits)
        (alike (eqb (length bytes) 0) (no _ (ne_eqb w.drive.counter counter_top (λ e. omega (arith, e, low))) refl))

    module _ (some : 0 < length bytes) where
      taken : writes (answer_to w (write o bytes)) bytes ≡ true
      taken = both-on (ap accepts write-accepted) (lt-ltb 0 (length bytes) some)

      pub written_drive_lem : (step w (write o bytes)).drive ≡ written_drive w.drive w.vol o bytes
      unfolding step world_after write_done
      written_drive_lem = yes _ taken refl

      pub written_record : (n : ℕ) → n < w.drive.n
          → record_of (shape_of (step w (write o bytes)).drive) (step w (write o bytes)).vol n ≡ turned (write_way w.drive w.vol o (length bytes) n) w.drive.epoch (record_of (shape_of w.drive) w.vol n)
      written_record n h = turned_by w x o bytes taken n h

      pub written-listing : (step w (write o bytes)).listing ≡ w.listing ++ pads_for w.drive w.vol (write_way w.drive w.vol o (length bytes))
      unfolding step world_after write_pads
      written-listing = rw taken refl
