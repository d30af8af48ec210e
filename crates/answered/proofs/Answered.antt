-- What the page tells of a flake is the pad last listed for it; and `old=free` is what it says.
use mathlib.Core.Path.{◌≡◌, refl, sym, ap, ◌∙◌}
use mathlib.Core.Bool.{Bool, true, false}
use mathlib.Core.List.{List}
use mathlib.Core.Logic.{◌⊎◌, inl, inr}
use Prim.Native.Nat.{ℕ, ◌<◌}
use native.Mathlib.Omega.{arith}
use lib.Dec.{leb}
use borrow.Author.Tests.{leb-true, leb-false}
use Rattle.base.specs.Pick.{pick}
use Rattle.base.specs.Lists.{same}
use Rattle.base.proofs.PickLaws.{yes, no, told, clash}
use Rattle.records.specs.Journal.{bit}
use Rattle.records.specs.Record.{epoch_fits, record_of}
use Rattle.records.proofs.RuleLaws.{formed-fits}
use Rattle.drive.specs.Drive.{shape_of, gauge_of, is_changing}
use Rattle.nuggets.specs.Nugget.{secret_for}
use Rattle.pages.specs.Words.{t_old, t_needed, t_free}
use Rattle.auditor.specs.Reading.{told_of, times_listed}
use Rattle.auditor.specs.Question.{key_word, secret_named}
use Rattle.auditor.proofs.KeyLaws.{old-word, secret_named_lem}
use Rattle.history.specs.World.{World}
use Rattle.history.specs.History.{history}
use Rattle.history.specs.Demands.{LastPad}
use Rattle.history.proofs.Sound.{Sound}
use Rattle.history.proofs.Steps.{sound}
use Rattle.history.proofs.Changed.{kept-changing}
use Rattle.history.proofs.Demands.{under-last-pad}
use Rattle.history.proofs.Old.{old-secret-free}
use Rattle.answered.specs.Answered.{PageTakes, page_for, secret_by, TellsPad, PageTellsPads, PageTellsNoOthers, PageTellsOld, FreeIsFree}
use Rattle.answered.proofs.Input.{page_holds}

module _ (w : World) (x : Sound w) where
  epoch_fits_lem : (n : ℕ) → n < w.drive.n → epoch_fits (gauge_of w.drive) (record_of (shape_of w.drive) w.vol n).epoch ≡ true
  epoch_fits_lem n h = formed-fits w.drive.p (gauge_of w.drive) (record_of (shape_of w.drive) w.vol n) (x.inv.formed n h)

  -- the secrets that the user holds are the drive's; when steady no word names the old one
  by_word : (e : ℕ) → epoch_fits (gauge_of w.drive) e ≡ true → secret_by w (key_word w.drive e) ≡ secret_named w.drive (key_word w.drive e)
  unfolding secret_named
  by_word e fits = go (told (same (key_word w.drive e) t_old))
    where
      go : (same (key_word w.drive e) t_old ≡ true) ⊎ (same (key_word w.drive e) t_old ≡ false)
          → pick (same (key_word w.drive e) t_old) w.old w.secret ≡ pick (same (key_word w.drive e) t_old) w.drive.old w.drive.present
      go (inl is) = rw is (sym (kept-changing w.drive.state w.old (old-word w.drive e fits is)) ∙ x.handed.kept)
      go (inr not) = rw not (sym x.present)

  tells : (any : List ℕ) (n f : ℕ) → PageTakes w any → n < w.drive.n → f < w.drive.p → bit (record_of (shape_of w.drive) w.vol n).held f ≡ true → LastPad w n f
      → TellsPad (page_for w any) w n f
  tells any n f fits h g on l =
      let a = page_holds w x any fits in
      let e = (record_of (shape_of w.drive) w.vol n).epoch in
      record {
        last = l;
        listed = a.flakes n f h g ∙ yes _ on refl;
        keycount = a.keycount n h ∙ sym l.keycount;
        key = ap (secret_by w) (a.word n h) ∙ by_word e (epoch_fits_lem n h) ∙ sym (secret_named_lem w.drive e (epoch_fits_lem n h)) ∙ sym l.secret;
        epoch = ap (secret_for w.drive) (a.epoch n h) ∙ sym l.secret;
      }

  module _ (any : List ℕ) (n f : ℕ) (fits : PageTakes w any) (h : n < w.drive.n) (shown : 0 < times_listed f (told_of (page_for w any) n).flakes) where
    inside : f < w.drive.p
    inside = go (told (leb w.drive.p f))
      where
        go : (leb w.drive.p f ≡ true) ⊎ (leb w.drive.p f ≡ false) → f < w.drive.p
        go (inl e) = absurd (omega (arith, shown, (page_holds w x any fits).no_others n f h (leb-true w.drive.p f e)))
        go (inr e) = leb-false w.drive.p f e

    present : bit (record_of (shape_of w.drive) w.vol n).held f ≡ true
    present = go (told (bit (record_of (shape_of w.drive) w.vol n).held f))
      where
        go : (bit (record_of (shape_of w.drive) w.vol n).held f ≡ true) ⊎ (bit (record_of (shape_of w.drive) w.vol n).held f ≡ false) → bit (record_of (shape_of w.drive) w.vol n).held f ≡ true
        go (inl e) = e
        go (inr e) = absurd (omega (arith, shown, (page_holds w x any fits).flakes n f h inside ∙ no _ e refl))

pub page_tells-pads : PageTellsPads
page_tells-pads start calls any n f fits h g on = tells (history start calls) (sound start calls) any n f fits h g on (under-last-pad start calls n f h g on)

pub page_tells-no_others : PageTellsNoOthers
page_tells-no_others start calls any n f fits h shown =
    let w = history start calls in
    let x = sound start calls in
    (inside w x any n f fits h shown, present w x any n f fits h shown)

-- `free` is the word of a steady drive alone
free-steady : (changing : Bool) → pick changing t_needed t_free ≡ t_free → changing ≡ false
unfolding same
free-steady true e = absurd (clash refl (ap (λ (l : List ℕ). same t_free l) (sym e)))
free-steady false e = refl

pub page_tells-old : PageTellsOld
page_tells-old start calls any fits = (page_holds (history start calls) (sound start calls) any fits).old

pub free_is_free : FreeIsFree
free_is_free start calls any fits free =
    let w = history start calls in
    let steady = free-steady (is_changing w.drive.state) (sym (page_tells-old start calls any fits) ∙ free) in
    let old = old-secret-free start calls steady in
    record { pads = λ n f h on l. old.0 n f l.pad h on l.last; mounts = old.1 }
