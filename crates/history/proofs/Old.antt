-- What a mount answers to any secrets and counter; when the old secret may go, and that it may not before.
use mathlib.Core.Path.{◌≡◌, refl, sym, ap, ap₂, ◌∙◌}
use mathlib.Core.Bool.{true, false, not}
use mathlib.Core.Logic.{◌⊎◌, inl, inr}
use mathlib.Core.List.{List, []}
use mathlib.Core.Option.{some}
use Prim.Native.Nat.{ℕ, ◌<◌}
use lib.ListN.{length}
use borrow.Author.Tests.{eq-eqb, le-leb}
use Rattle.base.specs.Pick.{either}
use Rattle.base.specs.Lists.{part, same}
use Rattle.base.proofs.PickLaws.{yes, no, told}
use Rattle.base.proofs.FoldLaws.{same_true, same_refl}
use Rattle.blake2s.specs.Hash.{blake2s}
use Rattle.answers.specs.Answer as A
use Rattle.answers.specs.Numbers.{accepts}
use Rattle.answers.proofs.StageLaws.{goes_on, first-answers}
use Rattle.records.specs.Journal.{bit}
use Rattle.records.specs.Listing.{Entry}
use Rattle.keys.specs.Keys.{check_of, seal_of}
use Rattle.records.specs.Record.{record_of}
use Rattle.drive.specs.declared.Drive.{Drive}
use Rattle.drive.specs.declared.Done.{Done}
use Rattle.drive.specs.declared.State.{State}
use Rattle.drive.specs.declared.State.TheVariants.{Steady, Changing}
use Rattle.drive.specs.Drive.{shape_of, is_changing, kept_old, zeros}
use Rattle.drive.specs.Head.{check_for, check_in}
use Rattle.opening.specs.Mount.{salt_in, epoch_in, check_bytes, seal_bytes, opened_drive, sealed, checked, form_of, keys_of, rest_of, mount_answer, mount_done}
use Rattle.opening.proofs.HeadBack.{Opened, opened}
use Rattle.opening.proofs.Reopens.{drive-back}
use Rattle.ledger.specs.Ledger.{secret_at, entry_at}
use Rattle.ledger.specs.Listing.{last_of}
use Rattle.history.specs.World.{World}
use Rattle.history.specs.Step.{old_for}
use Rattle.history.specs.History.{history}
use Rattle.history.specs.Answers.{changing, sealed_text, checked_text, agree_on, mount_due, OldSecretFree, MountsExactly, KeyCollision, OldSecretNeeded}
use Rattle.history.proofs.View.{ledger_of}
use Rattle.history.proofs.Sound.{Sound}
use Rattle.history.proofs.Steps.{kept_any, sound, mount-back}
use Rattle.history.proofs.Moves.{steady-epoch}

pad-present : (w : World) → Sound w → changing w ≡ false → (n f : ℕ) (pad : Entry) → n < w.drive.n → bit (record_of (shape_of w.drive) w.vol n).held f ≡ true
    → last_of n f w.listing ≡ some pad → pad.secret ≡ w.secret
unfolding secret_at
pad-present w x steady n f pad h on last =
    let one : some (entry_at (ledger_of w) n f) ≡ some pad = sym (x.inv.named n f h on) ∙ last in
    let is : entry_at (ledger_of w) n f ≡ pad = cc in
    ap (λ (e : Entry). e.secret) (sym is)
    ∙ yes _ (eq-eqb (record_of (shape_of w.drive) w.vol n).epoch w.drive.epoch (steady-epoch w x steady n h)) x.present

pub old-secret-free : OldSecretFree
old-secret-free start calls steady =
    let w = history start calls in
    let x = sound start calls in
    (pad-present w x steady, λ any. rw (no w.old steady refl) at (mount-back w x any))

-- the checks that two old secrets make: the same when steady
checks_test : (s : State) (a b salt : List ℕ) (epoch : ℕ) → same (check_for s (kept_old s a) salt epoch) (check_for s (kept_old s b) salt epoch)
    ≡ either (not (is_changing s)) (same (check_of a salt epoch) (check_of b salt epoch))
checks_test Steady a b salt epoch = same_refl (zeros 32)
checks_test (Changing left) a b salt epoch = refl

module _ (w : World) (x : Sound w) where
  abbrev v : List ℕ
  v = w.vol

  abbrev right : Drive
  right = opened_drive w.vol w.secret (old_for w [])

  tests : Opened v right w.outside
  unfolding mount_done
  tests = opened v w.secret (old_for w []) w.outside (ap (λ (done : Done). done.answer) (mount-back w x []))

  -- the head's bytes make the drive, but for the secrets
  back : opened_drive v w.drive.present w.old ≡ w.drive
  back = drive-back w.drive v w.old x.handed x.untouched.opens

  -- the check that they and a brought secret make
  check-made : (present old : List ℕ) → check_in (opened_drive v present old) ≡ check_for w.drive.state (kept_old w.drive.state old) w.drive.salt w.drive.epoch
  unfolding opened_drive
  check-made present old =
      ap (λ (s : State). check_for s (kept_old s old) (salt_in v) (epoch_in v)) (ap (λ (d : Drive). d.state) back)
      ∙ ap₂ (check_for w.drive.state (kept_old w.drive.state old)) (ap (λ (d : Drive). d.salt) back) (ap (λ (d : Drive). d.epoch) back)

  check_stands : check_bytes v ≡ check_for w.drive.state (kept_old w.drive.state w.old) w.drive.salt w.drive.epoch
  unfolding checked
  check_stands =
      same_true (check_bytes v) (check_in right) tests.check
      ∙ check-made w.secret (old_for w [])
      ∙ ap (λ (old : List ℕ). check_for w.drive.state old w.drive.salt w.drive.epoch) (kept_any w.drive.state w.old [])

  check_test : (present old : List ℕ) → checked (opened_drive v present old) v ≡ either (not (changing w)) (agree_on (checked_text w) w.old old)
  unfolding checked check_of
  check_test present old = ap₂ same check_stands (check-made present old) ∙ checks_test w.drive.state w.old old w.drive.salt w.drive.epoch

  node_is : right.node ≡ w.drive.node
  unfolding opened_drive
  node_is = ap (λ (d : Drive). d.node) back

  seal_test : (present old : List ℕ) → sealed (opened_drive v present old) v ≡ agree_on (sealed_text w) w.secret present
  unfolding sealed opened_drive seal_of
  seal_test present old =
      let stands : seal_bytes v ≡ seal_of w.secret (part 0 72 v) right.node = same_true (seal_bytes v) (seal_of w.secret (part 0 72 v) right.node) tests.seal in
      ap (λ (l : List ℕ). same l (seal_of present (part 0 72 v) right.node)) stands
      ∙ ap (λ (n : List ℕ). same (seal_of w.secret (part 0 72 v) n) (seal_of present (part 0 72 v) n)) node_is

  mounts : (present old : List ℕ) (outside : ℕ) → mount_answer v present old outside ≡ mount_due w present old outside
  unfolding mount_answer form_of rest_of keys_of opened_drive
  mounts present old outside =
      let form : form_of v ≡ A.Accepted =
      yes _ (le-leb 104 (length v) tests.head_long) (yes _ tests.has_mark (yes _ tests.fits (yes _ tests.long refl))) in
      goes_on _ _ (ap accepts form)
      ∙ first-answers (keys_of (opened_drive v present old) v outside) _ tests.whole
      ∙ rw (seal_test present old, check_test present old, tests.counter) refl

pub mounts_exactly : MountsExactly
mounts_exactly start calls present old outside = mounts (history start calls) (sound start calls) present old outside

pub old-secret_needed : OldSecretNeeded
old-secret_needed start calls other begun far = go (told (agree_on (checked_text w) w.old other))
  where
    w : World
    w = history start calls

    go : (agree_on (checked_text w) w.old other ≡ true) ⊎ (agree_on (checked_text w) w.old other ≡ false)
        → (mount_answer w.vol w.secret other w.outside ≡ A.OldSecret) ⊎ KeyCollision w.old other (checked_text w)
    go (inl e) = inr (record { differ = far; agree = same_true (blake2s w.old (checked_text w)) (blake2s other (checked_text w)) e })
    go (inr e) =
        let off : either (not (changing w)) (agree_on (checked_text w) w.old other) ≡ false = rw (begun, e) refl in
        inl (mounts_exactly start calls w.secret other w.outside ∙ yes _ (same_refl (blake2s w.secret (sealed_text w))) (no _ off refl))
