-- Each drive that a call hands back has its fields within their types, and so comes back from its image.
use mathlib.Core.Path.{◌≡◌, refl, ap}
use mathlib.Core.Bool.{Bool, true, false, not}
use mathlib.Core.List.{List}
use Prim.Native.Nat.{ℕ, ◌+◌, ◌-◌, ◌^◌, ◌<◌, ◌≤◌}
use native.Mathlib.Omega.{arith}
use lib.Dec.{eqb, ltb}
use lib.ListN.{length}
use borrow.Author.Tests.{ltb-true}
use Rattle.base.specs.Pick.{pick}
use Rattle.base.specs.Lists.{part}
use Rattle.base.proofs.PickLaws.{both_left, both_right}
use Rattle.base.proofs.PartLaws.{length_part}
use Rattle.words.specs.Le.{num, Bytes}
use Rattle.words.proofs.LeLaws.{num-lt, bytes-part}
use Rattle.answers.specs.Numbers.{accepts}
use Rattle.answers.proofs.StageLaws.{accepted_is}
use Rattle.layout.specs.declared.Shape.{Shape}
use Rattle.layout.specs.Shaped.{Shaped}
use Rattle.layout.proofs.Height.{leaves-some}
use Rattle.layout.proofs.Limits.{limits, version_le, version_known, cipher-le, cipher-known}
use Rattle.records.specs.declared.Way.{Way}
use Rattle.nodes.specs.Nodes.{node_in}
use Rattle.nodes.proofs.Bounds.{node-fits}
use Rattle.drive.specs.declared.Drive.{Drive}
use Rattle.drive.specs.declared.State.{State}
use Rattle.drive.specs.declared.State.TheVariants.{Steady, Changing}
use Rattle.drive.specs.Drive.{shape_of, blank_drive, counter_top, kept_old}
use Rattle.packed.specs.Image.{epoch_left, drive_in, DriveFits}
use Rattle.packed.proofs.ImageLaws.{drive-back}
use Rattle.opening.specs.Format.{fresh_drive, format_answer, format_done}
use Rattle.opening.specs.Mount.{shape_in, state_byte_in, epoch_in, state_in, opened_drive, mount_answer, mount_done}
use Rattle.opening.proofs.FormatLaws.{format_lent, length-planted}
use Rattle.opening.proofs.HeadBack.{opened, mount_opens}
use Rattle.changes.specs.Change.{pads_for, worked, advanced}
use Rattle.changes.specs.Write.{writes, written_drive, write_answer, write_done}
use Rattle.changes.specs.Rekey.{begin_answer, begun_drive, begin_done, sweep_answer, sweep_done, finish_answer, finished_drive, finish_done}
use Rattle.changes.proofs.AnswerLaws.{begin-told, sweep-told, finish-told, write-told}
use Rattle.changes.proofs.LaidLaws.{laid_lent}
use Rattle.changes.specs.Discard.{clears_none, discard_answer, clears, discarded_drive, discard_done}
use Rattle.changes.proofs.DiscardLaws.{discard-told, clears-room}
use Rattle.changes.proofs.MarkLaws.{marks_lent}
use Rattle.changes.proofs.TendLaws.{tends_lent}
use Rattle.drive.proofs.OpeningLaws.{opening_lent}
use Rattle.chained.specs.Back.{ComesBack, ImageCarried, FormatCarried, MountCarried, WriteCarried, BeginCarried, SweepCarried, FinishCarried, DiscardCarried}

carried : (d : Drive) → DriveFits d → ComesBack d
carried d w = record { fits = w; back = drive-back d w }

-- "every field zero, steady"
blank-fits : DriveFits blank_drive
unfolding blank_drive
blank-fits =
    record {
      n_width = omega arith;
      p_width = omega arith;
      f_width = omega arith;
      version_width = omega arith;
      cipher_width = omega arith;
      epoch_width = omega arith;
      left_width = omega arith;
      counter_width = omega arith;
      salt_long = refl;
      node_long = refl;
      present_long = refl;
      old_long = refl;
    }

-- what is handed back by an answer: the changed drive, or the other
picked : (b : Bool) (x y : Drive) → (b ≡ true → DriveFits x) → DriveFits y → DriveFits (pick b x y)
picked true x y f g = f refl
picked false x y f g = g

unless_blank : (b : Bool) (d : Drive) → DriveFits d → DriveFits (pick b blank_drive d)
unless_blank true d f = blank-fits
unless_blank false d f = f

-- a number that a volume or an image holds
number-low : (at k : ℕ) (v : List ℕ) → Bytes v → at + k ≤ length v → num (part at k v) < 256 ^ k
number-low at k v b h = rw (length_part at k v h) at (num-lt (part at k v) (bytes-part at k v b))

left-low : (b : Bool) (x : ℕ) → x < 2 ^ 16 → epoch_left (pick b Steady (Changing x)) < 2 ^ 16
left-low true x h = omega arith
left-low false x h = h

pub image-fits : (image : List ℕ) → length image ≡ 144 → Bytes image → DriveFits (drive_in image)
unfolding drive_in
image-fits v l b =
    let byte = num (part 12 1 v) in
    unless_blank (ltb 1 byte) _
    (record {
      n_width = number-low 0 4 v b (omega (arith, l));
      p_width = number-low 4 4 v b (omega (arith, l));
      f_width = number-low 8 4 v b (omega (arith, l));
      version_width = number-low 18 2 v b (omega (arith, l));
      cipher_width = number-low 13 1 v b (omega (arith, l));
      epoch_width = number-low 14 2 v b (omega (arith, l));
      left_width = left-low (eqb byte 0) (num (part 16 2 v)) (number-low 16 2 v b (omega (arith, l)));
      counter_width = number-low 40 8 v b (omega (arith, l));
      salt_long = length_part 24 16 v (omega (arith, l));
      node_long = length_part 48 32 v (omega (arith, l));
      present_long = length_part 80 32 v (omega (arith, l));
      old_long = length_part 112 32 v (omega (arith, l));
    })

pub image-carried : ImageCarried
image-carried image l b = carried (drive_in image) (image-fits image l b)

-- node 1 of a volume as long as its shape asks
node_long_lem : {s : Shape} {v : List ℕ} → Shaped s v → length (node_in s v 1) ≡ 32
node_long_lem {s} {v} l = length_part _ 32 v (node-fits 1 l (omega (arith, leaves-some s.n)))

pub format-fits : (s : Shape) (salt secret v : List ℕ) (outside : ℕ) → length salt ≡ 16 → length secret ≡ 32 → outside < 2 ^ 64
    → DriveFits (format_done s salt secret outside v).drive
unfolding format_done fresh_drive
format-fits s salt secret v outside long wide low = picked (accepts (format_answer s outside v)) (fresh_drive s salt secret outside) blank_drive on blank-fits
  where
    on : accepts (format_answer s outside v) ≡ true → DriveFits (fresh_drive s salt secret outside)
    on e =
        let (lent, room) = format_lent s outside v e in
        let ok = limits s lent.limited in
        record {
          n_width = omega (arith, ok.few);
          p_width = omega (arith, ok.narrow);
          f_width = omega (arith, ok.short);
          version_width = omega (arith, version_le s.version (version_known s lent.limited));
          cipher_width = omega (arith, cipher-le s.cipher (cipher-known s lent.limited));
          epoch_width = omega arith;
          left_width = omega arith;
          counter_width = omega (arith, low, room);
          salt_long = long;
          node_long = node_long_lem (record { limited = lent.limited; size = length-planted s });
          present_long = wide;
          old_long = refl;
        }

pub format-carried : FormatCarried
format-carried s salt secret v outside long wide low = carried _ (format-fits s salt secret v outside long wide low)

kept-long : (s : State) (old : List ℕ) → length old ≡ 32 → length (kept_old s old) ≡ 32
kept-long Steady old h = refl
kept-long (Changing left) old h = h

pub mount-fits : (v present old : List ℕ) (outside : ℕ) → Bytes v → length present ≡ 32 → length old ≡ 32 → DriveFits (mount_done v present old outside).drive
unfolding mount_done opened_drive
mount-fits v present old outside bytes wide old-wide = picked (accepts (mount_answer v present old outside)) (opened_drive v present old) blank_drive on blank-fits
  where
    on : accepts (mount_answer v present old outside) ≡ true → DriveFits (opened_drive v present old)
    on e =
        let accepted = accepted_is (mount_answer v present old outside) e in
        let long = (opened v present old outside accepted).head_long in
        let lent : Shaped (shape_in v) v = opening_lent (opened_drive v present old) v (ap accepts (mount_opens v present old outside bytes accepted)) in
        let epoch : epoch_in v < 256 ^ 2 = number-low 6 2 v bytes (omega (arith, long)) in
        record {
          n_width = number-low 8 4 v bytes (omega (arith, long));
          p_width = omega (arith, number-low 12 2 v bytes (omega (arith, long)));
          f_width = omega (arith, number-low 14 2 v bytes (omega (arith, long)));
          version_width = number-low 3 2 v bytes (omega (arith, long));
          cipher_width = omega (arith, number-low 5 1 v bytes (omega (arith, long)));
          epoch_width = epoch;
          left_width = left-low (eqb (state_byte_in v) 0) (epoch_in v - 1) (omega (arith, epoch));
          counter_width = number-low 32 8 v bytes (omega (arith, long));
          salt_long = length_part 16 16 v (omega (arith, long));
          node_long = node_long_lem lent;
          present_long = wide;
          old_long = kept-long (state_in v) old old-wide;
        }

pub mount-carried : MountCarried
mount-carried v present old outside bytes wide old-wide = carried _ (mount-fits v present old outside bytes wide old-wide)

-- a change keeps the volume's length
worked_lent : (d : Drive) (v : List ℕ) (way : ℕ → Way) (new : ℕ → ℕ → List ℕ) → Shaped (shape_of d) v → Shaped (shape_of d) (worked d v way new)
unfolding worked
worked_lent d v way new l =
    tends_lent (shape_of d) way d.n _ (marks_lent (shape_of d) d.epoch way v d.n _ (laid_lent (shape_of d) d.salt new (pads_for d v way) v l)) (omega arith)

advanced-fits : (d : Drive) (v : List ℕ) (way : ℕ → Way) (new : ℕ → ℕ → List ℕ) → Shaped (shape_of d) v → (d.counter ≡ counter_top → ⊥) → DriveFits d
    → DriveFits (advanced d (worked d v way new))
unfolding advanced
advanced-fits d v way new lent room w =
    record {
      n_width = w.n_width;
      p_width = w.p_width;
      f_width = w.f_width;
      version_width = w.version_width;
      cipher_width = w.cipher_width;
      epoch_width = w.epoch_width;
      left_width = w.left_width;
      counter_width = omega (arith, w.counter_width, room);
      salt_long = w.salt_long;
      node_long = node_long_lem (worked_lent d v way new lent);
      present_long = w.present_long;
      old_long = kept-long d.state d.old w.old_long;
    }

pub write-fits : (d : Drive) (v : List ℕ) (o : ℕ) (bytes : List ℕ) → DriveFits d → DriveFits (write_done d v o bytes).drive
unfolding write_done
write-fits d v o bytes w = picked (writes (write_answer d v o (length bytes)) bytes) (written_drive d v o bytes) d on w
  where
    on : writes (write_answer d v o (length bytes)) bytes ≡ true → DriveFits (written_drive d v o bytes)
    on e =
        let some : 0 < length bytes = ltb-true 0 (length bytes) (both_right (accepts (write_answer d v o (length bytes))) _ e) in
        let t = write-told d v o (length bytes) some (both_left (accepts (write_answer d v o (length bytes))) _ e) in
        advanced-fits d v _ _ t.lent t.counter_room w

pub write-carried : WriteCarried
write-carried d v o bytes w = carried _ (write-fits d v o bytes w)

pub begin-fits : (d : Drive) (v secret : List ℕ) → length secret ≡ 32 → DriveFits d → DriveFits (begin_done d v secret).drive
unfolding begin_done begun_drive
begin-fits d v secret wide w = picked (accepts (begin_answer d v secret)) (begun_drive d secret) d on w
  where
    on : accepts (begin_answer d v secret) ≡ true → DriveFits (begun_drive d secret)
    on e =
        let t = begin-told d v secret e in
        record {
          n_width = w.n_width;
          p_width = w.p_width;
          f_width = w.f_width;
          version_width = w.version_width;
          cipher_width = w.cipher_width;
          epoch_width = omega (arith, w.epoch_width, t.epoch_room);
          left_width = w.epoch_width;
          counter_width = omega (arith, w.counter_width, t.counter_room);
          salt_long = w.salt_long;
          node_long = w.node_long;
          present_long = wide;
          old_long = w.present_long;
        }

pub begin-carried : BeginCarried
begin-carried d v secret wide w = carried _ (begin-fits d v secret wide w)

pub sweep-fits : (d : Drive) (v : List ℕ) (n : ℕ) → DriveFits d → DriveFits (sweep_done d v n).drive
unfolding sweep_done
sweep-fits d v n w =
    picked (accepts (sweep_answer d v n)) _ d (λ e. let t = sweep-told d v n e in advanced-fits d v _ _ t.lent t.counter_room w) w

pub sweep-carried : SweepCarried
sweep-carried d v n w = carried _ (sweep-fits d v n w)

pub finish-fits : (d : Drive) (v : List ℕ) → DriveFits d → DriveFits (finish_done d v).drive
unfolding finish_done finished_drive
finish-fits d v w = picked (accepts (finish_answer d v)) (finished_drive d) d on w
  where
    on : accepts (finish_answer d v) ≡ true → DriveFits (finished_drive d)
    on e =
        let t = finish-told d v e in
        record {
          n_width = w.n_width;
          p_width = w.p_width;
          f_width = w.f_width;
          version_width = w.version_width;
          cipher_width = w.cipher_width;
          epoch_width = w.epoch_width;
          left_width = omega arith;
          counter_width = omega (arith, w.counter_width, t.counter_room);
          salt_long = w.salt_long;
          node_long = w.node_long;
          present_long = w.present_long;
          old_long = refl;
        }

pub finish-carried : FinishCarried
finish-carried d v w = carried _ (finish-fits d v w)

pub discard-fits : (d : Drive) (v : List ℕ) (n first count : ℕ) → DriveFits d → DriveFits (discard_done d v n first count).drive
unfolding discard_done
discard-fits d v n first count w = picked (clears d v n first count) (discarded_drive d v n first count) d on w
  where
    on : clears d v n first count ≡ true → DriveFits (discarded_drive d v n first count)
    on e =
        let t = discard-told d v n first count (both_left (accepts (discard_answer d v n first count)) (not (clears_none d v n first count)) e) in
        advanced-fits d v _ _ t.lent (clears-room d v n first count e) w

pub discard-carried : DiscardCarried
discard-carried d v n first count w = carried _ (discard-fits d v n first count w)
