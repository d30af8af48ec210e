-- A discard: its way, and what it leaves of the contents.
use mathlib.Core.Path.{◌≡◌, refl, sym, ap, ◌∙◌, subst}
use mathlib.Core.Bool.{Bool, true, false, not}
use mathlib.Core.Logic.{◌⊎◌, inl, inr}
use mathlib.Core.List.{List, []}
use Prim.Native.Nat.{ℕ, ◌+◌, ◌<◌, ◌≤◌}
use native.Mathlib.Omega.{arith}
use lib.Dec.{eqb, leb, ltb}
use borrow.Author.Tests.{eqb-true, eq-eqb, leb-true, ltb-true, le-leb, lt-ltb}
use Rattle.base.specs.Pick.{pick, both}
use Rattle.base.proofs.PickLaws.{yes, no, told, clash, both_left, both_right, both-on}
use Rattle.base.proofs.TabLaws.{tab_ext, tab_const}
use Rattle.answers.specs.Numbers.{accepts}
use Rattle.layout.specs.declared.Shape.{Shape}
use Rattle.layout.specs.Spots.{offset_at}
use Rattle.layout.proofs.Limits.{limits}
use Rattle.records.specs.declared.Record.{Record}
use Rattle.records.specs.declared.Way.TheVariants.{Idle, Clear}
use Rattle.records.specs.Journal.{bit, flake_range}
use Rattle.records.specs.Record.{record_of}
use Rattle.records.specs.Rule.{cleared_by, enciphered, held_after, turned}
use Rattle.records.specs.Listing.{Entry}
use Rattle.records.proofs.BitLaws.{bit-without, bit-empty, share_none_bits}
use Rattle.records.proofs.MaskLaws.{bit-range}
use Rattle.records.proofs.RuleLaws.{idle_keeps, cleared_keeps}
use Rattle.drive.specs.Drive.{shape_of, zeros}
use Rattle.nuggets.specs.Nugget.{nugget_of, contents_of}
use Rattle.nuggets.proofs.PieceLaws.{length-contents}
use Rattle.changes.specs.Change.{settled}
use Rattle.changes.specs.Discard.{clears_none, discard_answer, clears, discard_ways, discard_work, discarded_drive, discards_at}
use Rattle.changes.proofs.DiscardLaws.{Discards, discard-told, clears-room, discard-pads, range_in, range-told}
use Rattle.ledger.proofs.TurnLaws.{clear-fits}
use Rattle.history.specs.World.{World}
use Rattle.history.specs.Step.{world_after, contents_without}
use Rattle.history.specs.Demands.{plain_in, KeptButHeld}
use Rattle.history.proofs.Quiet.{untouched_lent}
use Rattle.history.proofs.Sound.{Sound, Keeps, plain-same}
use Rattle.history.proofs.Changed.{Ready, worked-turns, worked_same, worked_keeps}

not_so : (b : Bool) → (b ≡ true → ⊥) → b ≡ false
not_so true h = absurd (h refl)
not_so false h = refl

is_on : (b : Bool) → not b ≡ false → b ≡ true
is_on true q = refl
is_on false q = absurd (clash refl q)

not_both : (a : Bool) {b : Bool} → both a b ≡ false → b ≡ true → a ≡ false
not_both true q on = absurd (clash on q)
not_both false q on = refl

-- a flake of the range is in its set
range-set : (first count f : ℕ) → f < 64 → first ≤ f → f < first + count → bit (flake_range first count) f ≡ true
range-set first count f few from to = rw (bit-range first count f) (both-on (lt-ltb f 64 few) (both-on (le-leb first f from) (lt-ltb f (first + count) to)))

-- a flake that isn't cleared stays held, or not
held_by : (own : Bool) (m f : ℕ) (r : Record) → bit (cleared_by (pick own (Clear m) Idle)) f ≡ false → bit (held_after (pick own (Clear m) Idle) r) f ≡ bit r.held f
unfolding held_after
held_by true m f r off = bit-without r.held m f ∙ ap (λ (b : Bool). both (bit r.held f) (not b)) off ∙ stays (bit r.held f)
  where
    stays : (b : Bool) → both b true ≡ b
    stays true = refl
    stays false = refl
held_by false m f r off = refl

-- nothing is enciphered
none_chosen : (own : Bool) (m f : ℕ) (r : Record) → bit (enciphered (pick own (Clear m) Idle) r) f ≡ false
unfolding enciphered
none_chosen true m f r = bit-empty f
none_chosen false m f r = bit-empty f

-- flake f of nugget m is in the range
abbrev InRange : ℕ → ℕ → ℕ → ℕ → ℕ → Type 0
InRange n first count m f = (m ≡ n) × (first ≤ f) × (f < first + count)

module _ (n first count m f : ℕ) where
  range_cleared : bit (cleared_by (discard_ways n first count m)) f ≡ true → InRange n first count m f
  range_cleared = go (told (eqb m n))
    where
      go : (eqb m n ≡ true) ⊎ (eqb m n ≡ false) → bit (cleared_by (pick (eqb m n) (Clear (flake_range first count)) Idle)) f ≡ true → InRange n first count m f
      go (inl e) on =
          let set : bit (flake_range first count) f ≡ true = rw e at on in
          let tests = both_right (ltb f 64) (both (leb first f) (ltb f (first + count))) (sym (bit-range first count f) ∙ set) in
          (eqb-true m n e, leb-true first f (both_left (leb first f) (ltb f (first + count)) tests), ltb-true f (first + count) (both_right (leb first f) (ltb f (first + count)) tests))
      go (inr e) on = absurd (clash (rw e at on) (bit-empty f))

  cleared_range : f < 64 → InRange n first count m f → bit (cleared_by (discard_ways n first count m)) f ≡ true
  cleared_range few t = rw (eq-eqb m n t.0) (range-set first count f few t.1 t.2)

-- what the contents are in each flake
module _ (s : Shape) (n first count : ℕ) (few : first + count ≤ s.p) (contents after : ℕ → ℕ)
    (without : (a : ℕ) → after a ≡ pick (discards_at s n first count a) 0 (contents a)) (m f : ℕ) (low : f < s.p) where
  gone_plain : InRange n first count m f → plain_in s after m f ≡ zeros s.f
  unfolding plain_in
  gone_plain t =
      tab_ext s.f (λ b. after (offset_at s m f b)) (λ b. 0)
      (λ b h. without (offset_at s m f b) ∙ yes _ (range_in s n first count m f b few low h t.0 t.1 t.2) refl)
      ∙ tab_const s.f 0

  kept-plain : (InRange n first count m f → ⊥) → plain_in s after m f ≡ plain_in s contents m f
  unfolding plain_in
  kept-plain out =
      tab_ext s.f (λ b. after (offset_at s m f b)) (λ b. contents (offset_at s m f b))
      (λ b h. without (offset_at s m f b) ∙ no _ (not_so (discards_at s n first count (offset_at s m f b)) (λ e. out (range-told s n first count m f b few low h e))) refl)

module _ (w : World) (x : Sound w) (n first count : ℕ) where
  narrow : w.drive.p ≤ 64
  narrow = (limits (shape_of w.drive) (untouched_lent w.drive w.vol x.untouched).limited).narrow

  abbrev after : ℕ → ℕ
  after = contents_without w n first count

  taken : accepts (discard_answer w.drive w.vol n first count) ≡ true → (a : ℕ)
      → after a ≡ pick (discards_at (shape_of w.drive) n first count a) 0 (w.contents a)
  taken e a = ap (λ (b : Bool). pick (both b (discards_at (shape_of w.drive) n first count a)) 0 (w.contents a)) e

  module _ (e : clears w.drive w.vol n first count ≡ true) where
    accepted : accepts (discard_answer w.drive w.vol n first count) ≡ true
    accepted = both_left (accepts (discard_answer w.drive w.vol n first count)) (not (clears_none w.drive w.vol n first count)) e

    told_so : Discards w.drive w.vol n first count
    told_so = discard-told w.drive w.vol n first count accepted

    ready : Ready w x (discard_ways n first count) (contents_of w.drive w.vol) after
    ready =
        record {
          fits = λ m h. clear-fits w.drive.p w.drive.epoch (record_of (shape_of w.drive) w.vol m) (flake_range first count) (eqb m n);
          low = clears-room w.drive w.vol n first count e;
          may = λ m h one. absurd (clash one told_so.later);
          long = λ m f h l. length-contents (shape_of w.drive) w.vol (nugget_of w.drive w.vol m) f told_so.lent h l;
          news = λ m f h l on. absurd (clash on (none_chosen (eqb m n) (flake_range first count) f (record_of (shape_of w.drive) w.vol m)));
          gone = λ m f h l on. gone_plain (shape_of w.drive) n first count told_so.few w.contents after (taken accepted) m f l (range_cleared n first count m f on);
          rest = λ m f h l q off.
              kept-plain (shape_of w.drive) n first count told_so.few w.contents after (taken accepted) m f l
              (λ t. clash (cleared_range n first count m f (omega (arith, l, narrow)) t) off);
        }

    pub discarded_keeps : Keeps w (world_after w (discarded_drive w.drive w.vol n first count)
        (settled (discarded_drive w.drive w.vol n first count) (discard_work w.drive w.vol n first count)) [] w.secret w.old (contents_without w n first count))
    discarded_keeps =
        subst (λ (pads : List Entry). Keeps w (world_after w (discarded_drive w.drive w.vol n first count)
        (settled (discarded_drive w.drive w.vol n first count) (discard_work w.drive w.vol n first count)) pads w.secret w.old after))
        (discard-pads w.drive w.vol n first count told_so.inside)
        (worked_keeps w x (discard_ways n first count) (contents_of w.drive w.vol) after ready)

    pub cleared_turns : (m : ℕ) → m < w.drive.n
        → record_of (shape_of w.drive) (settled (discarded_drive w.drive w.vol n first count) (discard_work w.drive w.vol n first count)) m
        ≡ turned (discard_ways n first count m) w.drive.epoch (record_of (shape_of w.drive) w.vol m)
    cleared_turns m h = worked-turns w x (discard_ways n first count) (contents_of w.drive w.vol) after ready m h

    -- each nugget keeps all but held bits
    pub cleared_kept : (m : ℕ) → m < w.drive.n
        → KeptButHeld (shape_of w.drive) w.vol (settled (discarded_drive w.drive w.vol n first count) (discard_work w.drive w.vol n first count)) m (cleared_by (discard_ways n first count m))
    cleared_kept m h =
        let r = record_of (shape_of w.drive) w.vol m in
        let turns = cleared_turns m h in
        let (keycount, spent, epoch) = kept_by (eqb m n) r in
        record {
          keycount = ap (λ (q : Record). q.keycount) turns ∙ keycount;
          spent = ap (λ (q : Record). q.spent) turns ∙ spent;
          held = λ f off. ap (λ (q : Record). bit q.held f) turns ∙ held_by (eqb m n) (flake_range first count) f r off;
          epoch = ap (λ (q : Record). q.epoch) turns ∙ epoch;
          stored = λ f l. (worked_same w x (discard_ways n first count) (contents_of w.drive w.vol) after ready m f h l (none_chosen (eqb m n) (flake_range first count) f r)).stored;
          tags = λ f l. (worked_same w x (discard_ways n first count) (contents_of w.drive w.vol) after ready m f h l (none_chosen (eqb m n) (flake_range first count) f r)).tag;
        }
      where
        kept_by : (own : Bool) (r : Record) → let q = turned (pick own (Clear (flake_range first count)) Idle) w.drive.epoch r in
            (q.keycount ≡ r.keycount) × (q.spent ≡ r.spent) × (q.epoch ≡ r.epoch)
        kept_by true r = cleared_keeps (flake_range first count) w.drive.epoch r
        kept_by false r = idle_keeps w.drive.epoch r

  -- where nothing is cleared the contents stay: no flake of the range is held, so each reads as zero already
  pub idle-plain : clears w.drive w.vol n first count ≡ false → (m f : ℕ) → m < w.drive.n → f < w.drive.p
      → plain_in (shape_of w.drive) (contents_without w n first count) m f ≡ plain_in (shape_of w.drive) w.contents m f
  idle-plain e m f h l = go (told (accepts (discard_answer w.drive w.vol n first count)))
    where
      in_it : accepts (discard_answer w.drive w.vol n first count) ≡ true → (bit (cleared_by (discard_ways n first count m)) f ≡ true) ⊎ (bit (cleared_by (discard_ways n first count m)) f ≡ false)
          → plain_in (shape_of w.drive) after m f ≡ plain_in (shape_of w.drive) w.contents m f
      in_it ok (inl on) =
          let t = discard-told w.drive w.vol n first count ok in
          let place = range_cleared n first count m f on in
          let none : clears_none w.drive w.vol n first count ≡ true = is_on (clears_none w.drive w.vol n first count) (ap (λ (b : Bool). both b (not (clears_none w.drive w.vol n first count))) (sym ok) ∙ e) in
          let held : bit (record_of (shape_of w.drive) w.vol n).held f ≡ false =
          not_both (bit (record_of (shape_of w.drive) w.vol n).held f) (share_none_bits (record_of (shape_of w.drive) w.vol n).held (flake_range first count) none f) (range-set first count f (omega (arith, l, narrow)) place.1 place.2) in
          gone_plain (shape_of w.drive) n first count t.few w.contents after (taken ok) m f l place
          ∙ sym (x.inv.blank m f h l (rw place.0 held))
      in_it ok (inr off) =
          let t = discard-told w.drive w.vol n first count ok in
          kept-plain (shape_of w.drive) n first count t.few w.contents after (taken ok) m f l
          (λ t. clash (cleared_range n first count m f (omega (arith, l, narrow)) t) off)

      go : (accepts (discard_answer w.drive w.vol n first count) ≡ true) ⊎ (accepts (discard_answer w.drive w.vol n first count) ≡ false)
          → plain_in (shape_of w.drive) after m f ≡ plain_in (shape_of w.drive) w.contents m f
      go (inl ok) = in_it ok (told (bit (cleared_by (discard_ways n first count m)) f))
      go (inr refused) = plain-same (shape_of w.drive) after w.contents (λ a. ap (λ (b : Bool). pick (both b (discards_at (shape_of w.drive) n first count a)) 0 (w.contents a)) refused) m f
