-- The page's input holds what the user holds, it mounts, and the page answers.
use mathlib.Core.Path.{◌≡◌, refl, sym, ap, ◌∙◌}
use mathlib.Core.Bool.{true}
use mathlib.Core.List.{List, [], ◌++◌, append_assoc}
use mathlib.Core.Logic.{◌⊎◌, inl, inr}
use Prim.Native.Nat.{ℕ, ◌+◌, ◌^◌, ◌<◌, ◌≤◌}
use native.Mathlib.Omega.{arith}
use lib.ListN.{length, length-append}
use lib.Seq.{drop_at}
use borrow.Author.Tests.{le-leb}
use Rattle.base.proofs.PickLaws.{both-on}
use Rattle.base.proofs.PartLaws.{part-next}
use Rattle.words.specs.Le.{le}
use Rattle.words.proofs.LeLaws.{length-le, num-le}
use Rattle.answers.specs.Numbers.{accepts}
use Rattle.answers.specs.Answer as A
use Rattle.layout.specs.Parts.{length_of}
use Rattle.records.proofs.RuleLaws.{formed-epoch, formed-keycount}
use Rattle.drive.specs.declared.Done.{Done}
use Rattle.drive.specs.Drive.{shape_of, gauge_of, is_changing}
use Rattle.records.specs.Record.{record_of}
use Rattle.sheets.specs.Sheet.{present_in, old_in, outside_in, volume_in, input_sized, mounted_by}
use Rattle.pages.specs.Page.{mounts}
use Rattle.auditor.specs.Question.{Answers}
use Rattle.auditor.proofs.Theorem.{Narrow, page_answers}
use Rattle.history.specs.World.{World, Call}
use Rattle.history.specs.Step.{old_for}
use Rattle.history.specs.History.{Start, history}
use Rattle.history.proofs.Quiet.{untouched_lent, report-accepts}
use Rattle.history.proofs.Sound.{Sound}
use Rattle.history.proofs.Steps.{sound, mount-back}
use Rattle.history.proofs.Demands.{shape-kept}
use Rattle.answered.specs.Answered.{input_for, PageTakes, page_for}

-- four lists in a row, cut before the third and before the last
cut_third : (a b c d : List ℕ) → a ++ (b ++ (c ++ d)) ≡ (a ++ b) ++ (c ++ d)
cut_third a b c d = sym (append_assoc a b (c ++ d))

cut_last : (a b c d : List ℕ) → a ++ (b ++ (c ++ d)) ≡ ((a ++ b) ++ c) ++ d
cut_last a b c d = cut_third a b c d ∙ sym (append_assoc (a ++ b) c d)

-- a volume of a history is as long as its format's shape asks: the shape alone decides whether the page takes it
pub fits-by-shape : (start : Start) (calls : List Call) (any : List ℕ)
    → let w = history start calls in
    length w.secret ≡ 32 → length (old_for w any) ≡ 32 → length_of start.shape ≤ 61440 → PageTakes w any
fits-by-shape start calls any secret old small =
    let w = history start calls in
    let size = (untouched_lent w.drive w.vol (sound start calls).untouched).size in
    record { secret = secret; old = old; small = rw (size, (shape-kept start calls).0) small }

module _ (w : World) (x : Sound w) (any : List ℕ) (fits : PageTakes w any) where
  abbrev i : List ℕ
  i = input_for w any

  counter-low : w.outside < 256 ^ 8
  counter-low = rw (← x.counter) x.handed.counter_lt

  secrets_long : length (w.secret ++ old_for w any) ≡ 64
  secrets_long = omega (arith, length-append w.secret (old_for w any), fits.secret, fits.old)

  front_long : length ((w.secret ++ old_for w any) ++ le 8 w.outside) ≡ 72
  front_long = omega (arith, length-append (w.secret ++ old_for w any) (le 8 w.outside), secrets_long, length-le 8 w.outside)

  -- each part stands where the page looks for it
  present-back : present_in i ≡ w.secret
  unfolding input_for
  present-back = part-next 0 32 [] w.secret (old_for w any ++ (le 8 w.outside ++ w.vol)) refl fits.secret

  old-back : old_in i ≡ old_for w any
  unfolding input_for
  old-back = part-next 32 32 w.secret (old_for w any) (le 8 w.outside ++ w.vol) fits.secret fits.old

  outside-back : outside_in i ≡ w.outside
  unfolding input_for
  outside-back =
      rw (cut_third w.secret (old_for w any) (le 8 w.outside) w.vol, part-next 64 8 (w.secret ++ old_for w any) (le 8 w.outside) w.vol secrets_long (length-le 8 w.outside))
      (num-le 8 w.outside counter-low)

  volume-back : volume_in i ≡ w.vol
  unfolding input_for
  volume-back =
      rw (cut_last w.secret (old_for w any) (le 8 w.outside) w.vol) (drop_at ((w.secret ++ old_for w any) ++ le 8 w.outside) w.vol 72 front_long)

  long : length i ≡ 72 + length w.vol
  unfolding input_for
  long =
      rw (cut_last w.secret (old_for w any) (le 8 w.outside) w.vol)
      (omega (arith, length-append ((w.secret ++ old_for w any) ++ le 8 w.outside) w.vol, front_long))

  size : input_sized i ≡ true
  unfolding input_sized
  size = both-on (le-leb 72 (length i) (omega (arith, long))) (le-leb (length i) 61512 (omega (arith, long, fits.small)))

  -- so it mounts, and gives the very drive
  mounted_is : mounted_by i ≡ record { answer = A.Accepted; drive = w.drive }
  unfolding mounted_by
  mounted_is = rw (volume-back, present-back, old-back, outside-back) (mount-back w x any)

  mounted : mounts i ≡ true
  unfolding mounts
  mounted = both-on size (ap (λ (m : Done). accepts m.answer) mounted_is)

  narrow : Narrow w.drive w.vol
  narrow n h = (omega (arith, formed-keycount w.drive.p (gauge_of w.drive) (record_of (shape_of w.drive) w.vol n) (x.inv.formed n h), x.handed.counter_lt), low (formed-epoch w.drive.p (gauge_of w.drive) (record_of (shape_of w.drive) w.vol n) (x.inv.formed n h)))
    where
      low : ((record_of (shape_of w.drive) w.vol n).epoch ≡ w.drive.epoch) ⊎ ((is_changing w.drive.state ≡ true) × ((record_of (shape_of w.drive) w.vol n).epoch + 1 ≡ w.drive.epoch)) → (record_of (shape_of w.drive) w.vol n).epoch < 2 ^ 16
      low (inl e) = omega (arith, e, x.handed.epoch_lt)
      low (inr e) = omega (arith, e.1, x.handed.epoch_lt)

  pub page_holds : Answers (page_for w any) w.drive w.vol w.outside
  page_holds =
      let drive : (mounted_by i).drive ≡ w.drive = ap (λ (m : Done). m.drive) mounted_is in
      rw (drive, volume-back, outside-back) at
      (page_answers i mounted (rw (drive, volume-back) narrow) (rw outside-back counter-low) (rw (drive, volume-back) (report-accepts w.drive w.vol x.untouched)))
