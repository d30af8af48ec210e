-- The ways and the new contents of a write, of a sweep and of a discard.
use mathlib.Core.Path.{◌≡◌, refl, sym, ap, ◌∙◌}
use mathlib.Core.Bool.{Bool, true, false}
use mathlib.Core.List.{List}
use Prim.Native.Nat.{ℕ, ◌^◌, ◌<◌}
use lib.Dec.{eqb}
use lib.ListN.{length, get_or}
use borrow.Author.Tests.{lt-ltb}
use Rattle.base.specs.Pick.{pick}
use Rattle.base.specs.Lists.{tab}
use Rattle.base.proofs.PickLaws.{no, clash, both-on}
use Rattle.base.proofs.TabLaws.{length-tab, get_or-tab, tab_ext}
use Rattle.layout.specs.declared.Shape.{Shape}
use Rattle.layout.specs.Spots.{offset_at}
use Rattle.records.specs.declared.Way.{Way}
use Rattle.records.specs.declared.Way.TheVariants.{Idle}
use Rattle.records.specs.Journal.{bit}
use Rattle.records.specs.Rule.{touched_by, cleared_by, sweep_way, turned}
use Rattle.records.proofs.BitLaws.{bit-empty}
use Rattle.records.proofs.MaskLaws.{bit_with, with_lt}
use Rattle.records.proofs.RuleLaws.{way_touched, way_clears}
use Rattle.drive.specs.Drive.{shape_of}
use Rattle.nuggets.specs.Nugget.{nugget_of, contents_of}
use Rattle.nuggets.proofs.PieceLaws.{length-contents}
use Rattle.nuggets.specs.Touched.{meets, touched_of}
use Rattle.changes.specs.Laid.{over, written}
use Rattle.changes.specs.Change.{pads_for, settled}
use Rattle.changes.specs.Write.{write_way, new_contents, write_work, written_drive}
use Rattle.changes.specs.Rekey.{sweep_ways, sweep_work, swept_drive}
use Rattle.changes.proofs.AnswerLaws.{Moves, Granted}
use Rattle.changes.proofs.Relaid.{missed_byte}
use Rattle.ledger.proofs.TurnLaws.{sweep-fits, write-fits}
use Rattle.history.specs.World.{World}
use Rattle.history.specs.Step.{world_after}
use Rattle.history.specs.Demands.{plain_in}
use Rattle.history.proofs.View.{reads_plain}
use Rattle.history.proofs.Sound.{Sound, Keeps, plain-same}
use Rattle.history.proofs.Changed.{Ready, worked-turns, worked_keeps}
use Rattle.records.specs.Record.{record_of}

-- bytes laid over what was written to a flake
written-plain : (s : Shape) (o : ℕ) (bytes : List ℕ) (n f : ℕ) (contents : ℕ → ℕ)
    → written s o bytes n f (plain_in s contents n f) ≡ plain_in s (λ a. over o bytes a (contents a)) n f
unfolding written plain_in
written-plain s o bytes n f contents =
    tab_ext s.f (λ b. over o bytes (offset_at s n f b) (get_or (tab s.f (λ i. contents (offset_at s n f i))) b 0)) (λ b. over o bytes (offset_at s n f b) (contents (offset_at s n f b)))
    (λ b h. ap (λ (was : ℕ). over o bytes (offset_at s n f b) was) (get_or-tab s.f (λ i. contents (offset_at s n f i)) b 0 h))

written-long : (s : Shape) (o : ℕ) (bytes : List ℕ) (n f : ℕ) (was : List ℕ) → length (written s o bytes n f was) ≡ s.f
unfolding written
written-long s o bytes n f was = length-tab s.f _

-- a sweep clears nothing
sweep-clears : (own : Bool) → cleared_by (pick own sweep_way Idle) ≡ 0
sweep-clears true = refl
sweep-clears false = refl

-- a flake that the range doesn't meet keeps each byte
missed_plain : (s : Shape) (o : ℕ) (bytes : List ℕ) (n f : ℕ) (contents : ℕ → ℕ) → meets s o (length bytes) n f ≡ false
    → plain_in s (λ a. over o bytes a (contents a)) n f ≡ plain_in s contents n f
unfolding plain_in
missed_plain s o bytes n f contents off =
    tab_ext s.f (λ b. over o bytes (offset_at s n f b) (contents (offset_at s n f b))) (λ b. contents (offset_at s n f b))
    (λ b h. no _ (missed_byte s o (length bytes) n f b off h) refl)

module _ (w : World) (x : Sound w) where
  module _ (o : ℕ) (bytes : List ℕ) (b : Granted w.drive w.vol o (length bytes)) (after : ℕ → ℕ) (laid : (a : ℕ) → after a ≡ over o bytes a (w.contents a)) where
    abbrev ways : ℕ → Way
    ways = write_way w.drive w.vol o (length bytes)

    plain-after : (n f : ℕ) → plain_in (shape_of w.drive) after n f ≡ plain_in (shape_of w.drive) (λ a. over o bytes a (w.contents a)) n f
    plain-after n f = plain-same (shape_of w.drive) after (λ a. over o bytes a (w.contents a)) laid n f

    touched-low : (n : ℕ) → touched_of (shape_of w.drive) o (length bytes) n < 2 ^ w.drive.p
    unfolding touched_of
    touched-low n = with_lt w.drive.p (meets (shape_of w.drive) o (length bytes) n)

    off : (n f : ℕ) → f < w.drive.p → bit (touched_by (ways n)) f ≡ false → meets (shape_of w.drive) o (length bytes) n f ≡ false
    unfolding touched_of
    off n f h e =
        let t = touched_of (shape_of w.drive) o (length bytes) n in
        let q : bit t f ≡ false = rw (way_touched (record_of (shape_of w.drive) w.vol n) t w.drive.epoch) at e in
        sym (both-on (lt-ltb f w.drive.p h) refl) ∙ sym (bit_with w.drive.p (meets (shape_of w.drive) o (length bytes) n) f) ∙ q

    ready : Ready w x ways (new_contents w.drive w.vol o bytes) after
    ready =
        record {
          fits = λ n h. write-fits w.drive.p w.drive.epoch (record_of (shape_of w.drive) w.vol n) (touched_of (shape_of w.drive) o (length bytes) n) (touched-low n);
          low = b.counter_room;
          may = λ n h one. way_clears (record_of (shape_of w.drive) w.vol n) (touched_of (shape_of w.drive) o (length bytes) n) w.drive.epoch;
          long = λ n f h l. written-long (shape_of w.drive) o bytes n f (contents_of w.drive w.vol n f);
          news = λ n f h l on.
              ap (λ (was : List ℕ). written (shape_of w.drive) o bytes n f was) (reads_plain w.drive w.vol w.listing w.retired w.contents x.inv n f h l)
              ∙ written-plain (shape_of w.drive) o bytes n f w.contents
              ∙ sym (plain-after n f);
          gone = λ n f h l e.
              absurd (clash e (ap (λ (m : ℕ). bit m f) (way_clears (record_of (shape_of w.drive) w.vol n) (touched_of (shape_of w.drive) o (length bytes) n) w.drive.epoch) ∙ bit-empty f));
          rest = λ n f h l e c. plain-after n f ∙ missed_plain (shape_of w.drive) o bytes n f w.contents (off n f l e);
        }

    pub written-turns : (n : ℕ) → n < w.drive.n → record_of (shape_of w.drive) (settled (written_drive w.drive w.vol o bytes) (write_work w.drive w.vol o bytes)) n
        ≡ turned (ways n) w.drive.epoch (record_of (shape_of w.drive) w.vol n)
    written-turns n h = worked-turns w x ways (new_contents w.drive w.vol o bytes) after ready n h

    pub written_keeps : Keeps w (world_after w (written_drive w.drive w.vol o bytes) (settled (written_drive w.drive w.vol o bytes) (write_work w.drive w.vol o bytes))
        (pads_for w.drive w.vol ways) w.secret w.old after)
    written_keeps = worked_keeps w x ways (new_contents w.drive w.vol o bytes) after ready

  module _ (n : ℕ) (b : Moves w.drive w.vol n) where
    sweep_ready : Ready w x (sweep_ways n) (contents_of w.drive w.vol) w.contents
    sweep_ready =
        record {
          fits = λ m h. sweep-fits w.drive.p w.drive.epoch (record_of (shape_of w.drive) w.vol m) (eqb m n);
          low = b.counter_room;
          may = λ m h one. sweep-clears (eqb m n);
          long = λ m f h l. length-contents (shape_of w.drive) w.vol (nugget_of w.drive w.vol m) f b.lent h l;
          news = λ m f h l on. reads_plain w.drive w.vol w.listing w.retired w.contents x.inv m f h l;
          gone = λ m f h l e. absurd (clash e (ap (λ (k : ℕ). bit k f) (sweep-clears (eqb m n)) ∙ bit-empty f));
          rest = λ m f h l e c. refl;
        }

    pub swept_turns : (m : ℕ) → m < w.drive.n → record_of (shape_of w.drive) (settled (swept_drive w.drive w.vol n) (sweep_work w.drive w.vol n)) m
        ≡ turned (sweep_ways n m) w.drive.epoch (record_of (shape_of w.drive) w.vol m)
    swept_turns m h = worked-turns w x (sweep_ways n) (contents_of w.drive w.vol) w.contents sweep_ready m h

    pub swept_keeps : Keeps w (world_after w (swept_drive w.drive w.vol n) (settled (swept_drive w.drive w.vol n) (sweep_work w.drive w.vol n))
        (pads_for w.drive w.vol (sweep_ways n)) w.secret w.old w.contents)
    swept_keeps = worked_keeps w x (sweep_ways n) (contents_of w.drive w.vol) w.contents sweep_ready
