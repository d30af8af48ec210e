-- The theorems of specs/Detection.antt, each under its name.
use mathlib.Core.Path.{◌≡◌, refl, ap, ◌∙◌}
use mathlib.Core.Logic.{◌⊎◌, inl, inr, ⊎_elim}
use mathlib.Core.List.{List}
use Prim.Native.Nat.{ℕ, ◌+◌, ◌<◌, ◌≤◌}
use native.Mathlib.Omega.{arith}
use lib.Bits.{bit_and}
use lib.ListN.{length}
use borrow.Author.Tests.{eqb-true, eq-eqb, ne_eqb, leb-true}
use Rattle.base.specs.Lists.{part}
use Rattle.base.proofs.PickLaws.{both_left, both_right, both-on}
use Rattle.base.proofs.FoldLaws.{same_true}
use Rattle.layout.specs.Shape.{in_limits}
use Rattle.layout.specs.Parts.{length_of}
use Rattle.layout.specs.Spots.{spot_at}
use Rattle.layout.specs.Shaped.{Shaped}
use Rattle.layout.proofs.Limits.{Limits, limits, cipher-le, cipher-known}
use Rattle.layout.proofs.Places.{Inside}
use Rattle.answers.specs.Answer as A
use Rattle.answers.specs.Numbers.{accepts}
use Rattle.answers.specs.Stages.{and_then}
use Rattle.answers.proofs.StageLaws.{both_stages, accepted_is}
use Rattle.records.proofs.BitLaws.{bit_and_lem}
use Rattle.records.specs.Record.{record_of}
use Rattle.tree.specs.Whole.{whole_of}
use Rattle.drive.specs.declared.Drive.{Drive}
use Rattle.drive.specs.Drive.{shape_of, gauge_of}
use Rattle.keys.specs.Keys.{seal_of, check_of}
use Rattle.drive.specs.Head.{check_in}
use Rattle.drive.specs.Opening.{opening_of}
use Rattle.drive.proofs.OpeningLaws.{opening_lent}
use Rattle.nuggets.specs.Touched.{touched_of}
use Rattle.reading.proofs.TestedLaws.{read_opens, read_tests}
use Rattle.reports.specs.Report.{report_answer}
use Rattle.opening.specs.Mount.{shape_in, state_byte_in, cipher_in, head_fits, length_fits, sealed, checked, opened_drive}
use Rattle.opening.proofs.HeadBack.{opened}
use Rattle.changes.specs.Write.{write_way, write_answer}
use Rattle.changes.proofs.SpanLaws.{idles_way}
use Rattle.changes.proofs.DiscardLaws.{discard-told}
use Rattle.changes.proofs.AnswerLaws.{Tests, Granted, begin-told, sweep-told, finish-told, write_opens, write-told}
use Rattle.detection.specs.Right.{PathGood, SaysPresent, TagsRight}
use Rattle.detection.specs.Detection.{read, write, begin, sweep, finish, discard, report, HeadDetected, ReadDetected, WriteDetected, RekeyDetected, SweepDetected, DiscardDetected, FinishDetected, ReportDetected, MountDetected}
use Rattle.detection.proofs.RightLaws.{head_right, path-good, whole_right, tag_right}
use Rattle.detection.proofs.TouchedLaws.{spot_within, touched-bit, touched-some, way_rekeys}

lent_by : (d : Drive) (v : List ℕ) → opening_of d v ≡ A.Accepted → Shaped (shape_of d) v
lent_by d v e = opening_lent d v (ap accepts e)

-- a report's two stages
report_stages : (d : Drive) (v : List ℕ) → report_answer d v ≡ A.Accepted
    → (opening_of d v ≡ A.Accepted) × (whole_of (shape_of d) (gauge_of d) v ≡ A.Accepted)
unfolding report_answer and_then
report_stages d v e =
    let q = both_stages (opening_of d v) (whole_of (shape_of d) (gauge_of d) v) (ap accepts e) in
    (accepted_is _ q.0, accepted_is _ q.1)

pub head_detected : HeadDetected
head_detected d v a (read o len) e = head_right d v (read_opens d v o len e)
head_detected d v a (write o len) e = head_right d v (write_opens d v o len (ap accepts e))
head_detected d v a (begin secret) e = head_right d v (begin-told d v secret (ap accepts e)).opens
head_detected d v a (sweep n) e = head_right d v (sweep-told d v n (ap accepts e)).opens
head_detected d v a finish e = head_right d v (finish-told d v (ap accepts e)).opens
head_detected d v a (discard n first count) e = head_right d v (discard-told d v n first count (ap accepts e)).opens
head_detected d v a report e = head_right d v (report_stages d v e).0

pub read_detected : ReadDetected
read_detected d v o len a e h k =
    let s = shape_of d in
    let at = spot_at s a in
    let t = read_tests d v o len e a h k in
    let lent = lent_by d v t.opens in
    let lim = limits s lent.limited in
    let x = spot_within s o len a lim h k t.fits in (
      path-good d v at.nugget lent x.nugget_is t.path,
      λ p.
          tag_right d v at.nugget (bit_and (record_of (shape_of d) v at.nugget).held (touched_of s o len at.nugget)) at.flake t.flakes x.flake_is
          (bit_and_lem (record_of (shape_of d) v at.nugget).held (touched_of s o len at.nugget) at.flake ∙ both-on p (touched-bit s o len a lim h k x)),
    )

-- the tests of the nugget of a written byte
module _ (d : Drive) (v : List ℕ) (o len a : ℕ) (e : write_answer d v o len ≡ A.Accepted) (h : o ≤ a) (k : a < o + len) where
  told : Granted d v o len
  told = write-told d v o len (omega (arith, h, k)) (ap accepts e)

  lim : Limits (shape_of d)
  lim = limits (shape_of d) told.lent.limited

  spot : Inside (shape_of d) a
  spot = spot_within (shape_of d) o len a lim h k told.in_range

  tested : Tests d v (spot_at (shape_of d) a).nugget (write_way d v o len (spot_at (shape_of d) a).nugget)
  tested =
      let n = (spot_at (shape_of d) a).nugget in
      told.tests n spot.nugget_is
      (idles_way (record_of (shape_of d) v n) (touched_of (shape_of d) o len n) d.epoch
      ∙ touched-some (touched_of (shape_of d) o len n) (spot_at (shape_of d) a).flake (touched-bit (shape_of d) o len a lim h k spot))

  written-path : PathGood d v (spot_at (shape_of d) a).nugget
  written-path = path-good d v (spot_at (shape_of d) a).nugget told.lent spot.nugget_is tested.path

  rekeyed_tags : SaysPresent d v (spot_at (shape_of d) a).nugget (spot_at (shape_of d) a).flake ⊎ ((record_of (shape_of d) v (spot_at (shape_of d) a).nugget).epoch ≡ d.epoch → ⊥)
      → TagsRight d v (spot_at (shape_of d) a).nugget
  rekeyed_tags why f l p =
      let n = (spot_at (shape_of d) a).nugget in
      let at = (spot_at (shape_of d) a).flake in
      let on = touched-bit (shape_of d) o len a lim h k spot in
      let spent = ⊎_elim (λ here. inl (written-path.formed.held at here)) inr why in
      tag_right d v n (record_of (shape_of d) v n).held f (tested.flakes (way_rekeys (record_of (shape_of d) v n) (touched_of (shape_of d) o len n) d.epoch at on spent)) l p

pub write_detected : WriteDetected
write_detected d v o len a e h k = written-path d v o len a e h k

pub rekey_detected : RekeyDetected
rekey_detected d v o len a e h k why = rekeyed_tags d v o len a e h k why

pub sweep_detected : SweepDetected
sweep_detected d v n e =
    let m = sweep-told d v n (ap accepts e) in
    (m.inside, path-good d v n m.lent m.inside m.path, λ f l p. tag_right d v n (record_of (shape_of d) v n).held f m.flakes l p)

pub discard_detected : DiscardDetected
discard_detected d v n first count e =
    let t = discard-told d v n first count (ap accepts e) in
    (t.inside, path-good d v n t.lent t.inside t.path)

pub finish_detected : FinishDetected
finish_detected d v e = let t = finish-told d v (ap accepts e) in whole_right d v t.whole t.lent

pub report_detected : ReportDetected
report_detected d v e = let q = report_stages d v e in whole_right d v q.1 (lent_by d v q.0)

pub mount_detected : MountDetected
unfolding opened_drive sealed checked head_fits length_fits seal_of check_of
mount_detected v present old outside e =
    let d = opened_drive v present old in
    let o = opened v present old outside e in
    let check : part 40 32 v ≡ check_in d = same_true _ _ o.check in
    let low : state_byte_in v ≤ 1 = leb-true (state_byte_in v) 1 (both_left _ _ (both_right (in_limits (shape_in v)) _ o.fits)) in
    record {
      seal = same_true _ _ o.seal;
      steady = λ z. check ∙ rw (eq-eqb (state_byte_in v) 0 z) refl;
      changing = λ z. check ∙ rw (ne_eqb (state_byte_in v) 0 (λ q. omega (arith, z, q))) refl;
      state = low;
      kind = omega (arith, low, cipher-le (cipher_in v) (cipher-known (shape_in v) (both_left (in_limits (shape_in v)) _ o.fits)));
      counter = o.counter;
      whole = whole_right d v o.whole (record { limited = both_left (in_limits (shape_in v)) _ o.fits; size = eqb-true (length v) (length_of (shape_in v)) o.long });
    }
