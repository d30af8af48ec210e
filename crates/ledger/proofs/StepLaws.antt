-- A change of nuggets, each in its way, keeps the invariant.
use mathlib.Core.Path.{◌≡◌, refl, ◌∙◌}
use mathlib.Core.Bool.{true, false}
use mathlib.Core.Logic.{◌⊎◌, inl, inr}
use mathlib.Core.Option.{some}
use mathlib.Core.List.{List}
use Prim.Native.Nat.{ℕ, ◌+◌, ◌^◌, ◌<◌, ◌≤◌}
use native.Mathlib.Omega.{arith}
use lib.Dec.{eqb, leb}
use lib.ListN.{length, length-append}
use borrow.Author.Tests.{eq-eqb, ne_eqb, leb-true, leb-false}
use Rattle.base.specs.Pick.{pick, both}
use Rattle.base.proofs.PickLaws.{told, both_no}
use Rattle.words.specs.Xor.{xorl}
use Rattle.records.specs.declared.Record.{Record}
use Rattle.records.specs.declared.Way.{Way}
use Rattle.records.specs.Journal.{bit, flake_count as present_of}
use Rattle.records.specs.Record.{well_formed}
use Rattle.records.specs.Rule.{cleared_by, enciphered, keycount_after, spent_after, turned}
use Rattle.records.specs.Listing.{Entry, entry, pads_by, pads_to}
use Rattle.records.proofs.BitLaws.{none_above, bit_below}
use Rattle.records.proofs.RuleLaws.{keycount-rises, well_formed-after, formed-held, formed-epoch}
use Rattle.ledger.specs.Listing.{one, times, or_else, last_of}
use Rattle.ledger.specs.Totals.{sum, spent_in, retired_of, risen}
use Rattle.ledger.specs.Ledger.{Kit, Ledger, gauge_in, secret_at, entry_at, blank_flake}
use Rattle.ledger.specs.Invariant.{Inv}
use Rattle.ledger.specs.Step.{Step}
use Rattle.ledger.proofs.ListingLaws.{times-append, last-append}
use Rattle.ledger.proofs.CallLaws.{times-by, last-by, last-by-none, times-past, times-call, last-call, length-call}
use Rattle.ledger.proofs.TotalLaws.{sum_same, sum_pairs}
use Rattle.ledger.proofs.TurnLaws.{Adds, Rekeyed, turn-told, new_epoch, old-stays, touched-lt, enciphered-lt, untouched-by, held_uncleared, absent_untouched, absent_before, one-once, one-now, one-tally}

module _ (κ : Kit) (way : ℕ → Way) (l m : Ledger) (inv : Inv κ l) (step : Step κ way l m) where
  abbrev before : ℕ → Record
  before n = l.records n

  abbrev pads : List Entry
  pads = pads_to κ.p way l.records l.present κ.n

  turn : (n : ℕ) → n < κ.n → Adds l.epoch (way n) (before n) ⊎ Rekeyed l.epoch (way n) (before n)
  turn n h = turn-told κ.p l.epoch (before n) (way n) (step.ways n h)

  small : (n : ℕ) → n < κ.n → enciphered (way n) (before n) < 2 ^ κ.p
  small n h =
      enciphered-lt κ.p l.epoch (before n) (way n) (step.ways n h)
      (formed-held κ.p (gauge_in l) (before n) (inv.formed n h))

  -- how often an entry is listed, and which is the last
  count : (n k f : ℕ) → n < κ.n
      → times n k f m.listing ≡ times n k f l.listing + one (both (eqb (keycount_after (way n) (before n)) k) (bit (enciphered (way n) (before n)) f))
  count n k f h =
      rw (step.lists, times-append n k f l.listing pads, times-call κ.p way l.records l.present κ.n n k f h)
      (rw (times-by κ.p (way n) n (before n) l.present k f (small n h)))

  count_past : (n k f : ℕ) → κ.n ≤ n → times n k f m.listing ≡ 0
  count_past n k f h =
      rw (step.lists, times-append n k f l.listing pads, inv.past n k f h, times-past κ.p way l.records l.present κ.n n k f h)

  last : (n f : ℕ) → n < κ.n
      → last_of n f m.listing ≡ or_else (last_of n f (pads_by κ.p (way n) n (before n) l.present)) (last_of n f l.listing)
  last n f h = rw (step.lists, last-append n f l.listing pads, last-call κ.p way l.records l.present κ.n n f h)

  once_after : (n k f : ℕ) → times n k f m.listing ≤ 1
  once_after n k f = go (told (leb κ.n n))
    where
      go : (leb κ.n n ≡ true) ⊎ (leb κ.n n ≡ false) → times n k f m.listing ≤ 1
      go (inl e) = omega (arith, count_past n k f (leb-true κ.n n e))
      go (inr e) =
          let h : n < κ.n = leb-false κ.n n e in
          rw (count n k f h)
          (one-once l.epoch (way n) (before n) f (turn n h) k (times n k f l.listing) (inv.once n k f) (inv.fresh n k f h)
          (λ q. rw (← q) (inv.now n f h)))

  wide-after : (n k f : ℕ) → κ.p ≤ f → times n k f m.listing ≡ 0
  wide-after n k f w = go (told (leb κ.n n))
    where
      go : (leb κ.n n ≡ true) ⊎ (leb κ.n n ≡ false) → times n k f m.listing ≡ 0
      go (inl e) = count_past n k f (leb-true κ.n n e)
      go (inr e) =
          let h : n < κ.n = leb-false κ.n n e in
          rw (
            count n k f h,
            inv.wide n k f w,
            none_above κ.p (enciphered (way n) (before n)) f (small n h) w,
            both_no (eqb (keycount_after (way n) (before n)) k),
          )

  fresh-after : (n k f : ℕ) → n < κ.n → (m.records n).keycount < k → times n k f m.listing ≡ 0
  fresh-after n k f h up =
      let over : keycount_after (way n) (before n) < k = rw (step.turns n h) at up in
      rw (
        count n k f h,
        inv.fresh n k f h (omega (arith, keycount-rises (way n) (before n))),
        ne_eqb (keycount_after (way n) (before n)) k (λ q. omega arith),
      )

  now-after : (n f : ℕ) → n < κ.n → times n (m.records n).keycount f m.listing ≡ one (bit (m.records n).spent f)
  now-after n f h =
      rw (step.turns n h, count n (keycount_after (way n) (before n)) f h)
      (one-now l.epoch (way n) (before n) f (turn n h) (times n (keycount_after (way n) (before n)) f l.listing)
      (inv.fresh n (keycount_after (way n) (before n)) f h) (λ q. rw (← q) (inv.now n f h)))

  formed-after : (n : ℕ) → n < κ.n → well_formed κ.p (gauge_in m) (m.records n) ≡ true
  formed-after n h =
      rw (step.turns n h, step.epochs, step.states, step.counts)
      (well_formed-after κ.p (way n) (gauge_in l) (before n) (touched-lt κ.p l.epoch (before n) (way n) (step.ways n h)) (inv.formed n h))

  tally-after : length m.listing ≡ spent_in κ.p κ.n m.records + m.retired
  tally-after =
      let new : spent_in κ.p κ.n m.records ≡ sum κ.n (λ n. present_of κ.p (spent_after (way n) (before n)))
      = sum_same κ.n (λ n. present_of κ.p (m.records n).spent) (λ n. present_of κ.p (spent_after (way n) (before n))) (λ n h. rw (step.turns n h)) in
      let gone : risen κ.p κ.n l.records m.records ≡ sum κ.n (λ n. retired_of κ.p (before n) (turned (way n) l.epoch (before n)))
      = sum_same κ.n (λ n. retired_of κ.p (before n) (m.records n)) (λ n. retired_of κ.p (before n) (turned (way n) l.epoch (before n))) (λ n h. rw (step.turns n h)) in
      let each = sum_pairs κ.n (λ n. present_of κ.p (before n).spent) (λ n. present_of κ.p (enciphered (way n) (before n)))
      (λ n. present_of κ.p (spent_after (way n) (before n))) (λ n. retired_of κ.p (before n) (turned (way n) l.epoch (before n)))
      (λ n h. one-tally κ.p l.epoch (way n) (before n) (turn n h)) in
      rw (step.lists, length-append l.listing pads, length-call κ.p way l.records l.present κ.n, step.retires, new, gone)
      (omega (arith, each, inv.tally))

  -- the secret of an epoch that a record had before, and of the head's
  secret-kept : (n : ℕ) → n < κ.n → secret_at m (before n).epoch ≡ secret_at l (before n).epoch
  unfolding secret_at
  secret-kept n h = rw (step.epochs, step.presents) (go (formed-epoch κ.p (gauge_in l) (before n) (inv.formed n h)))
    where
      go : ((before n).epoch ≡ l.epoch) ⊎ ((l.changing ≡ true) × ((before n).epoch + 1 ≡ l.epoch))
          → pick (eqb (before n).epoch l.epoch) l.present m.old ≡ pick (eqb (before n).epoch l.epoch) l.present l.old
      go (inl e) = rw (eq-eqb (before n).epoch l.epoch e)
      go (inr e) = rw (step.olds e.0)

  secret-head : secret_at m l.epoch ≡ l.present
  unfolding secret_at
  secret-head = rw (step.epochs, eq-eqb l.epoch l.epoch refl) step.presents

  -- an enciphered flake lies under the entry that the call listed; any other present one was present, and lies as it did
  entry_new : (n f : ℕ) → n < κ.n → bit (enciphered (way n) (before n)) f ≡ true
      → entry_at m n f ≡ entry n (keycount_after (way n) (before n)) f l.present
  entry_new n f h e = rw (step.turns n h, new_epoch l.epoch (way n) (before n) f (turn n h) e, secret-head)

  entry_old : (n f : ℕ) → n < κ.n → bit (enciphered (way n) (before n)) f ≡ false → bit (m.records n).held f ≡ true
      → (bit (before n).held f ≡ true) × (entry_at m n f ≡ entry_at l n f)
  entry_old n f h e d =
      let (was, a) = old-stays l.epoch (way n) (before n) f (turn n h) e (rw (step.turns n h) at d) in
      (was, rw (step.turns n h, a.keycount_kept, a.epoch_kept, secret-kept n h))

  few-after : (n f : ℕ) → n < κ.n → bit (m.records n).held f ≡ true → f < κ.p
  few-after n f h e =
      bit_below κ.p (m.records n).held f (formed-held κ.p (gauge_in m) (m.records n) (formed-after n h)) e

  laid-after : (n f : ℕ) → n < κ.n → bit (m.records n).held f ≡ true → m.stored n f ≡ xorl (m.plain n f) (κ.pad (entry_at m n f))
  laid-after n f h d = go (told (bit (enciphered (way n) (before n)) f))
    where
      go : (bit (enciphered (way n) (before n)) f ≡ true) ⊎ (bit (enciphered (way n) (before n)) f ≡ false)
          → m.stored n f ≡ xorl (m.plain n f) (κ.pad (entry_at m n f))
      go (inl e) = rw (entry_new n f h e) (step.enciphers n f h (few-after n f h d) e)
      go (inr e) =
          let (was, same) = entry_old n f h e d in
          let few : f < κ.p = few-after n f h d in
          let kept = held_uncleared (way n) (before n) f (rw (step.turns n h) at d) in
          rw (same, step.leaves n f h few e, step.untouched n f h few (untouched-by (way n) (before n) f e) kept) (inv.laid n f h was)

  blank-after : (n f : ℕ) → n < κ.n → f < κ.p → bit (m.records n).held f ≡ false → m.plain n f ≡ blank_flake κ
  blank-after n f h few d =
      let gone = rw (step.turns n h) at d in
      go gone (told (bit (cleared_by (way n)) f))
    where
      go : bit (turned (way n) l.epoch (before n)).held f ≡ false → (bit (cleared_by (way n)) f ≡ true) ⊎ (bit (cleared_by (way n)) f ≡ false) → m.plain n f ≡ blank_flake κ
      go gone (inl e) = step.clears n f h few e
      go gone (inr e) = step.untouched n f h few (absent_untouched (way n) (before n) f gone) e ∙ inv.blank n f h few (absent_before (way n) (before n) f gone e)

  pub keeps : Inv κ m
  keeps = record {
    once = once_after;
    past = count_past;
    wide = wide-after;
    fresh = fresh-after;
    now = now-after;
    formed = formed-after;
    named = λ n f h d. last n f h ∙ named n f h d (told (bit (enciphered (way n) (before n)) f));
    laid = laid-after;
    blank = blank-after;
    tally = tally-after;
  }
    where
      -- the entry listed last is the one that a present flake lies under
      named : (n f : ℕ) → n < κ.n → bit (m.records n).held f ≡ true
          → (bit (enciphered (way n) (before n)) f ≡ true) ⊎ (bit (enciphered (way n) (before n)) f ≡ false)
          → or_else (last_of n f (pads_by κ.p (way n) n (before n) l.present)) (last_of n f l.listing) ≡ some (entry_at m n f)
      named n f h d (inl e) = rw (last-by κ.p (way n) n (before n) l.present f (small n h) e, entry_new n f h e) refl
      named n f h d (inr e) =
          let (was, same) = entry_old n f h e d in
          rw (last-by-none κ.p (way n) n (before n) l.present f e, same) (inv.named n f h was)
