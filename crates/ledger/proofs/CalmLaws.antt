-- The head's change keeps the invariant, and the formatted drive has it.
use mathlib.Core.Path.{◌≡◌, refl, ap, sym, ◌∙◌}
use mathlib.Core.Bool.{true, false}
use mathlib.Core.Logic.{◌⊎◌, inl, inr}
use mathlib.Core.Option.{Option, some}
use mathlib.Core.List.{List}
use Prim.Native.Nat.{ℕ, ◌+◌, ◌<◌}
use native.Mathlib.Omega.{arith}
use lib.Dec.{eqb}
use lib.ListN.{length}
use lib.Pow.{pow_pos}
use borrow.Author.Tests.{eq-eqb, ne_eqb, lt-ltb}
use Rattle.base.specs.Pick.{pick}
use Rattle.base.proofs.PickLaws.{clash}
use Rattle.words.specs.Xor.{xorl}
use Rattle.records.specs.Journal.{bit, flake_count as present_of}
use Rattle.records.specs.Record.{epoch_fits, well_formed}
use Rattle.records.specs.Listing.{Entry}
use Rattle.records.proofs.BitLaws.{bit-empty, bit_below, lies_self}
use Rattle.ledger.specs.Listing.{times, last_of}
use Rattle.ledger.specs.Totals.{spent_in}
use Rattle.ledger.specs.Ledger.{Kit, Ledger, gauge_in, secret_at, entry_at}
use Rattle.ledger.specs.Invariant.{Inv, Fresh}
use Rattle.ledger.specs.Step.{Kept, Calm, HeadBegun, HeadFinished}
use Rattle.ledger.proofs.TotalLaws.{sum_same, sum-none}
use Rattle.records.proofs.RuleLaws.{formed-spent, formed_lies, formed-held, formed-epoch, formed-keycount, formed-by}
use Rattle.records.proofs.CountLaws.{present-none}

module _ (κ : Kit) (l m : Ledger) (inv : Inv κ l) (calm : Calm κ l m) where
  abbrev same : (n : ℕ) → n < κ.n → m.records n ≡ l.records n
  same n h = calm.kept.same_records n h

  count : (n k f : ℕ) → times n k f m.listing ≡ times n k f l.listing
  count n k f = ap (λ (es : List Entry). times n k f es) calm.kept.same_listing

  entry-same : (n f : ℕ) → n < κ.n → entry_at m n f ≡ entry_at l n f
  entry-same n f h = rw (same n h, calm.same_secrets n h)

  spent-same : spent_in κ.p κ.n m.records ≡ spent_in κ.p κ.n l.records
  spent-same = sum_same κ.n (λ n. present_of κ.p (m.records n).spent) (λ n. present_of κ.p (l.records n).spent) (λ n h. rw (same n h))

  laid-after : (n f : ℕ) → n < κ.n → bit (m.records n).held f ≡ true → m.stored n f ≡ xorl (m.plain n f) (κ.pad (entry_at m n f))
  laid-after n f h e =
      let was : bit (l.records n).held f ≡ true = rw (same n h) at e in
      let few : f < κ.p = bit_below κ.p (l.records n).held f (formed-held κ.p (gauge_in l) (l.records n) (inv.formed n h)) was in
      rw (entry-same n f h, calm.kept.same_stored n f h few, calm.kept.same_plain n f h few) (inv.laid n f h was)

  pub calms : Inv κ m
  calms = record {
    once = λ n k f. rw (count n k f) (inv.once n k f);
    past = λ n k f h. count n k f ∙ inv.past n k f h;
    wide = λ n k f h. count n k f ∙ inv.wide n k f h;
    fresh = λ n k f h up. count n k f ∙ inv.fresh n k f h (rw (same n h) at up);
    now = λ n f h. rw (same n h, count n (l.records n).keycount f) (inv.now n f h);
    formed = λ n h. rw (same n h) (calm.still_formed n h);
    named = λ n f h e.
        ap (λ (es : List Entry). last_of n f es) calm.kept.same_listing
        ∙ inv.named n f h (rw (same n h) at e)
        ∙ ap {B = Option Entry} some (sym (entry-same n f h));
    laid = laid-after;
    blank = λ n f h few e. calm.kept.same_plain n f h few ∙ inv.blank n f h few (rw (same n h) at e);
    tally = ap (λ (es : List Entry). length es) calm.kept.same_listing ∙ rw (spent-same, calm.kept.same_retired) inv.tally;
  }

module _ (κ : Kit) (l : Ledger) (inv : Inv κ l) where
  -- a steady drive's records are at the head's epoch
  pub steady-epoch : l.changing ≡ false → (n : ℕ) → n < κ.n → (l.records n).epoch ≡ l.epoch
  steady-epoch s n h = go (formed-epoch κ.p (gauge_in l) (l.records n) (inv.formed n h))
    where
      go : ((l.records n).epoch ≡ l.epoch) ⊎ ((l.changing ≡ true) × ((l.records n).epoch + 1 ≡ l.epoch)) → (l.records n).epoch ≡ l.epoch
      go (inl e) = e
      go (inr e) = absurd (clash e.0 s)

module _ (κ : Kit) (l m : Ledger) (inv : Inv κ l) (kept : Kept κ l m) where
  -- a record stays well formed under a new head whose epoch and state it fits: the counter doesn't fall
  still : (n : ℕ) → n < κ.n → epoch_fits (gauge_in m) (l.records n).epoch ≡ true → well_formed κ.p (gauge_in m) (l.records n) ≡ true
  still n h fits =
      let was = inv.formed n h in
      formed-by κ.p (gauge_in m) (l.records n) (lt-ltb (l.records n).spent _ (formed-spent κ.p (gauge_in l) (l.records n) was))
      (formed_lies κ.p (gauge_in l) (l.records n) was) fits
      (omega (arith, formed-keycount κ.p (gauge_in l) (l.records n) was, kept.counter_up))

  pub begin_calm : HeadBegun l m → Calm κ l m
  unfolding secret_at
  begin_calm b = record { kept = kept; still_formed = formed; same_secrets = secrets }
    where
      formed : (n : ℕ) → n < κ.n → well_formed κ.p (gauge_in m) (l.records n) ≡ true
      formed n h = still n h
          (rw (b.is_changing, b.epoch_up, steady-epoch κ l inv b.was_steady n h, ne_eqb l.epoch (l.epoch + 1) (λ e. omega arith), eq-eqb (l.epoch + 1) (l.epoch + 1) refl))

      secrets : (n : ℕ) → n < κ.n → pick (eqb (l.records n).epoch m.epoch) m.present m.old ≡ pick (eqb (l.records n).epoch l.epoch) l.present l.old
      secrets n h =
          rw (b.epoch_up, steady-epoch κ l inv b.was_steady n h, ne_eqb l.epoch (l.epoch + 1) (λ e. omega arith), eq-eqb l.epoch l.epoch refl) b.old_kept

  pub finish_calm : HeadFinished κ l m → Calm κ l m
  unfolding secret_at
  finish_calm b = record { kept = kept; still_formed = formed; same_secrets = secrets }
    where
      formed : (n : ℕ) → n < κ.n → well_formed κ.p (gauge_in m) (l.records n) ≡ true
      formed n h = still n h (rw (b.epoch_kept, b.none_left n h, eq-eqb l.epoch l.epoch refl))

      secrets : (n : ℕ) → n < κ.n → pick (eqb (l.records n).epoch m.epoch) m.present m.old ≡ pick (eqb (l.records n).epoch l.epoch) l.present l.old
      secrets n h = rw (b.epoch_kept, b.none_left n h, eq-eqb l.epoch l.epoch refl) b.present_kept

module _ (κ : Kit) (l : Ledger) (new : Fresh κ l) where
  unlisted : (n k f : ℕ) → times n k f l.listing ≡ 0
  unfolding times
  unlisted n k f = ap (λ (es : List Entry). times n k f es) new.unlisted

  absent : (n f : ℕ) → n < κ.n → bit (l.records n).held f ≡ false
  absent n f h = rw (new.empty n h) (bit-empty f)

  unspent : (n f : ℕ) → n < κ.n → bit (l.records n).spent f ≡ false
  unspent n f h = rw (new.empty n h) (bit-empty f)

  none-spent : spent_in κ.p κ.n l.records ≡ 0
  none-spent = sum-none κ.n (λ n. present_of κ.p (l.records n).spent) (λ n h. rw (new.empty n h) (present-none κ.p))

  pub starts : Inv κ l
  starts = record {
    once = λ n k f. omega (arith, unlisted n k f);
    past = λ n k f h. unlisted n k f;
    wide = λ n k f h. unlisted n k f;
    fresh = λ n k f h up. unlisted n k f;
    now = λ n f h. unlisted n (l.records n).keycount f ∙ rw (unspent n f h);
    formed = λ n h. formed-by κ.p (gauge_in l) (l.records n) (rw (new.empty n h) (lt-ltb 0 _ (pow_pos κ.p))) (rw (new.empty n h) (lies_self 0)) (rw (new.empty n h, eq-eqb l.epoch l.epoch refl)) (rw (new.empty n h) (omega arith));
    named = λ n f h e. absurd (clash e (absent n f h));
    laid = λ n f h e. absurd (clash e (absent n f h));
    blank = λ n f h few e. new.zeros n f h few;
    tally = ap (λ (es : List Entry). length es) new.unlisted ∙ rw (none-spent, new.unretired);
  }
