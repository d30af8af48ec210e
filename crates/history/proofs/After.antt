-- A change of nuggets, each in its way: every record, flake and tag afterwards, and what nobody touched is untouched again.
use mathlib.Core.Path.{◌≡◌, refl, ap, ◌∙◌}
use mathlib.Core.Bool.{true, false}
use mathlib.Core.Logic.{◌⊎◌, inl, inr}
use mathlib.Core.List.{List}
use Prim.Native.Nat.{ℕ, ◌^◌, ◌<◌}
use native.Mathlib.Nat.{lt_of_lt_of_le}
use lib.ListN.{length}
use lib.Pow.{pow_mono}
use Rattle.base.proofs.PickLaws.{yes, told}
use Rattle.base.proofs.FoldLaws.{same_refl}
use borrow.Author.Tests.{eq-eqb}
use Rattle.layout.specs.declared.Shape.{Shape}
use Rattle.layout.specs.Shaped.{Shaped}
use Rattle.layout.proofs.Limits.{limits}
use Rattle.records.specs.declared.Record.{Record}
use Rattle.records.specs.declared.Way.{Way}
use Rattle.records.specs.Journal.{bit}
use Rattle.records.specs.Record.{Codes, record_of}
use Rattle.records.specs.Rule.{touched_by, keycount_after, turned, CanRise, MayClear}
use Rattle.records.proofs.RuleLaws.{well_formed-after, codes_after}
use Rattle.keys.specs.declared.Lock.{Lock}
use Rattle.drive.specs.declared.Drive.{Drive}
use Rattle.drive.specs.Drive.{shape_of, gauge_of, kept_old}
use Rattle.drive.specs.Head.{head_of}
use Rattle.drive.specs.Opening.{in_form}
use Rattle.nuggets.specs.Nugget.{secret_for, lock_by, lock_for}
use Rattle.nuggets.specs.Tests.{good_flake, good_flake_of}
use Rattle.opening.proofs.Reopens.{length-head}
use Rattle.changes.specs.Change.{worked, advanced, settled}
use Rattle.changes.proofs.Each.{chosen}
use Rattle.changes.proofs.LaidLaws.{Long}
use Rattle.changes.proofs.PutLaws.{Same, Under, same_trans, under_same}
use Rattle.changes.proofs.ViewLaws.{worked_lent, worked_record, worked-put, worked_kept, worked-good}
use Rattle.changes.proofs.SettleLaws.{settled_record, settled_same, settled-good}
use Rattle.ledger.specs.Step.{WayFits}
use Rattle.ledger.proofs.TurnLaws.{Adds, Rekeyed, turn-told, new_epoch, old-stays, touched-lt}
use Rattle.history.proofs.Quiet.{Untouched, untouched_lent}
use Rattle.history.proofs.Heads.{settled_opens, tag-kept}
use Rattle.drive.proofs.OpeningLaws.{opening-told}

-- a flake laid under its nugget's lock has the right tag
tag-laid : (e : Drive) (z : List ℕ) (n f : ℕ) (lock : Lock) (c : List ℕ) → Under (shape_of e) f lock c z → lock_for e z n ≡ lock → good_flake_of e z n f ≡ true
unfolding good_flake
tag-laid e z n f lock c x locks =
    ap (λ (l : Lock). good_flake (shape_of e) z (record { lock = l; held = (record_of (shape_of e) z n).held }) f) locks ∙ rw (x.tag, x.stored) (same_refl _)

-- what a change of nuggets asks
pub record Due (d : Drive) (v : List ℕ) (way : ℕ → Way) (new : ℕ → ℕ → List ℕ) : Type 0 where
  pub was : Untouched d v
  pub salted : length d.salt ≡ 16
  pub epoch_low : d.epoch < 2 ^ 16
  pub kept : kept_old d.state d.old ≡ d.old
  pub fits : (n : ℕ) → n < d.n → WayFits d.p d.epoch (record_of (shape_of d) v n) (way n)
  pub codes : (n : ℕ) → n < d.n → Codes (shape_of d) (record_of (shape_of d) v n)
  pub room : (n : ℕ) → n < d.n → CanRise (way n) (record_of (shape_of d) v n)
  pub may : (n : ℕ) → n < d.n → MayClear (shape_of d) (way n)
  pub long : Long (shape_of d) new

module _ (d : Drive) (v : List ℕ) (way : ℕ → Way) (new : ℕ → ℕ → List ℕ) (x : Due d v way new) where
  abbrev s : Shape
  s = shape_of d

  abbrev u : List ℕ
  u = worked d v way new

  abbrev e : Drive
  e = advanced d u

  abbrev z : List ℕ
  z = settled e u

  lent : Shaped s v
  lent = untouched_lent d v x.was

  head_long : length (head_of e) ≡ 104
  unfolding advanced
  head_long = length-head e x.salted

  touched-low : (n : ℕ) → n < d.n → touched_by (way n) < 2 ^ d.p
  touched-low n h = touched-lt d.p d.epoch (record_of (shape_of d) v n) (way n) (x.fits n h)

  codes_turned : (n : ℕ) → n < d.n → Codes (shape_of d) (turned (way n) d.epoch (record_of (shape_of d) v n))
  codes_turned n h =
      codes_after (shape_of d) (way n) d.epoch (record_of (shape_of d) v n) (x.codes n h)
      (lt_of_lt_of_le (touched-low n h) (pow_mono (limits s lent.limited).narrow)) x.epoch_low (x.room n h) (x.may n h)

  -- each record is the one turned in its nugget's way
  pub record_after : (n : ℕ) → n < d.n → record_of (shape_of d) z n ≡ turned (way n) d.epoch (record_of (shape_of d) v n)
  record_after n h = settled_record s e u head_long n ∙ worked_record d v way new lent x.long n h (codes_turned n h)

  -- under what the enciphered flakes of nugget n lie
  abbrev lock_after : ℕ → Lock
  lock_after n = lock_by s d.salt d.present n (keycount_after (way n) (record_of (shape_of d) v n))

  -- each enciphered flake is its new contents under its pad, and every other is as it was
  pub put-after : (n f : ℕ) → n < d.n → f < d.p → chosen way (record_of (shape_of d) v) n f ≡ true
      → Under s f (lock_after n) (new n f) z
  put-after n f a b on = under_same (worked-put d v way new lent x.long n f a b on) (settled_same s e u head_long n f)

  pub kept-after : (n f : ℕ) → n < d.n → f < d.p → chosen way (record_of (shape_of d) v) n f ≡ false → Same s n f v z
  kept-after n f a b off = same_trans (worked_kept d v way new lent x.long n f a b off) (settled_same s e u head_long n f)

  -- secrets are named as before
  secret-after : (k : ℕ) → secret_for e k ≡ secret_for d k
  unfolding secret_for advanced
  secret-after k = rw x.kept refl

  secret-head : secret_for e d.epoch ≡ d.present
  unfolding secret_for advanced
  secret-head = yes _ (eq-eqb d.epoch d.epoch refl) refl

  turn : (n : ℕ) → n < d.n → Adds d.epoch (way n) (record_of (shape_of d) v n) ⊎ Rekeyed d.epoch (way n) (record_of (shape_of d) v n)
  turn n h = turn-told d.p d.epoch (record_of (shape_of d) v n) (way n) (x.fits n h)

  -- an enciphered flake's nugget has the head's epoch
  epoch_after_lem : (n f : ℕ) → n < d.n → chosen way (record_of (shape_of d) v) n f ≡ true → (record_of (shape_of d) z n).epoch ≡ d.epoch
  epoch_after_lem n f h on = ap (λ (r : Record). r.epoch) (record_after n h) ∙ new_epoch d.epoch (way n) (record_of (shape_of d) v n) f (turn n h) on

  keycount_after_lem : (n : ℕ) → n < d.n → (record_of (shape_of d) z n).keycount ≡ keycount_after (way n) (record_of (shape_of d) v n)
  keycount_after_lem n h = ap (λ (r : Record). r.keycount) (record_after n h)

  lock_after_lem : (n f : ℕ) → n < d.n → chosen way (record_of (shape_of d) v) n f ≡ true → lock_for e z n ≡ lock_after n
  unfolding advanced
  lock_after_lem n f h on = rw (epoch_after_lem n f h on, secret-head, keycount_after_lem n h) refl

  tag-after : (n f : ℕ) → n < d.n → f < d.p → bit (record_of (shape_of d) z n).held f ≡ true → good_flake_of e z n f ≡ true
  unfolding advanced
  tag-after n f h l on = go (told (chosen way (record_of (shape_of d) v) n f))
    where
      go : (chosen way (record_of (shape_of d) v) n f ≡ true) ⊎ (chosen way (record_of (shape_of d) v) n f ≡ false) → good_flake_of e z n f ≡ true
      go (inl put) =
          tag-laid e z n f (lock_after n) (new n f) (put-after n f h l put) (lock_after_lem n f h put)
      go (inr off) =
          let (was, a) = old-stays d.epoch (way n) (record_of (shape_of d) v n) f (turn n h) off (rw (record_after n h) at on) in
          tag-kept d e v z n f refl refl (kept-after n f h l off) (keycount_after_lem n h ∙ a.keycount_kept)
          (secret-after (record_of (shape_of d) z n).epoch ∙ ap (secret_for d) (ap (λ (r : Record). r.epoch) (record_after n h) ∙ a.epoch_kept)) (x.was.tags n f h l was)

  form-after : in_form e ≡ true
  unfolding advanced in_form
  form-after = (opening-told d v x.was.opens).form

  pub untouched-after : Untouched e z
  unfolding advanced
  untouched-after =
      record {
        opens = settled_opens e u x.salted form-after (worked_lent d v way new lent x.long).size refl;
        good = settled-good s e u head_long (worked-good d v way new lent x.long x.was.good);
        well = λ n h. rw (record_after n h) (well_formed-after d.p (way n) (gauge_of d) (record_of (shape_of d) v n) (touched-low n h) (x.was.well n h));
        tags = λ n f h l on. tag-after n f h l on;
      }
