-- The stores of a write, nugget by nugget: what was stored for those before leaves each nugget as the tests saw it.
use mathlib.Core.Path.{◌≡◌, refl, sym, ap, ◌∙◌}
use mathlib.Core.List.{List}
use Prim.Native.Nat.{ℕ, zero, suc, ◌+◌, ◌-◌, ◌<◌, ◌≤◌}
use native.Mathlib.Numerals.{add-one}
use native.Mathlib.Omega.{arith}
use lib.ListN.{length}
use Rattle.records.proofs.RecordLaws.{record_told}
use Rattle.base.proofs.TabLaws.{length-tab}
use Rattle.layout.specs.declared.Shape.{Shape}
use Rattle.layout.specs.Spots.{spot_at}
use Rattle.layout.specs.Parts.{record_at}
use Rattle.layout.specs.Shaped.{Shaped}
use Rattle.layout.proofs.Limits.{limits}
use Rattle.records.specs.declared.Record.{Record}
use Rattle.records.specs.declared.Way.{Way}
use Rattle.records.specs.Journal.{bit}
use Rattle.records.specs.Rule.{way_of, enciphered, keycount_after, CanRise}
use Rattle.records.specs.Listing.{Entry, pads_by, pads_to}
use Rattle.drive.specs.declared.Drive.{Drive}
use Rattle.drive.specs.Drive.{shape_of}
use Rattle.nuggets.specs.Nugget.{stored_in, contents_in, contents_of}
use Rattle.nuggets.specs.Touched.{touched_of}
use Rattle.changes.specs.Laid.{written, laid}
use Rattle.changes.specs.Change.{idles, marked, marked_to, tended, tended_to, worked}
use Rattle.changes.specs.Write.{write_way, new_contents, write_work}
use Rattle.changes.proofs.Each.{each_map, Of, each-pads}
use Rattle.changes.proofs.LaidLaws.{Long, laid-append}
use Rattle.changes.proofs.PadsLaws.{to_stands, below_far, laid_record, laid-stored}
use Rattle.changes.proofs.MarkLaws.{marks_later}
use Rattle.changes.proofs.SweepLaws.{laid-alike}
use Rattle.changes.proofs.SpanLaws.{still_to, idles_way, idle-below, idle-above, pads-idle_to, marked-idle, tended-idle}
use Rattle.writing.specs.Room.{Room}
use Rattle.records.specs.Record.{record_of}

-- a nugget's contents rest on its record and its stored flakes alone, and its way on its record
contents-told : (d : Drive) (v w : List ℕ) (n f : ℕ) → record_of (shape_of d) w n ≡ record_of (shape_of d) v n → stored_in (shape_of d) w n f ≡ stored_in (shape_of d) v n f → contents_of d w n f ≡ contents_of d v n f
unfolding contents_in
contents-told d v w n f er es = rw (er, es) refl

pub room-told : (d : Drive) (v w : List ℕ) (o len n : ℕ) {y : Way} → y ≡ write_way d w o len n → record_of (shape_of d) w n ≡ record_of (shape_of d) v n → CanRise (write_way d v o len n) (record_of (shape_of d) v n)
    → CanRise y (record_of (shape_of d) w n)
room-told d v w o len n ey e h = rw (ey, e) h

-- new contents are F bytes each
long : (d : Drive) (v : List ℕ) (o : ℕ) (bytes : List ℕ) → Long (shape_of d) (new_contents d v o bytes)
unfolding written
long d v o bytes n f a b = length-tab d.f _

-- flakes and tags, records, leaves and paths of the nuggets below n
abbrev pub laid_to : Drive → List ℕ → ℕ → List ℕ → ℕ → List ℕ
laid_to d v o bytes n =
    laid (shape_of d) d.salt (new_contents d v o bytes) (pads_to d.p (write_way d v o (length bytes)) (record_of (shape_of d) v) d.present n) v

abbrev pub marks_to : Drive → List ℕ → ℕ → ℕ → ℕ → List ℕ
marks_to d v o len n = marked_to (shape_of d) d.epoch (write_way d v o len) v n v

abbrev pub tends_to : Drive → List ℕ → ℕ → ℕ → ℕ → List ℕ
tends_to d v o len n = tended_to (shape_of d) (write_way d v o len) n v

-- the laying of flakes and tags
module _ (d : Drive) (v : List ℕ) (o : ℕ) (bytes : List ℕ) (l : Shaped (shape_of d) v) where
  abbrev s : Shape
  s = shape_of d

  abbrev way : ℕ → Way
  way = write_way d v o (length bytes)

  abbrev new : ℕ → ℕ → List ℕ
  new = new_contents d v o bytes

  abbrev pads : ℕ → List Entry
  pads n = pads_to d.p way (record_of (shape_of d) v) d.present n

  abbrev here : ℕ → List ℕ
  here = laid_to d v o bytes

  pub laid_to_record : (n m : ℕ) → n ≤ d.n → m < d.n → record_of (shape_of d) (laid_to d v o bytes n) m ≡ record_of (shape_of d) v m
  laid_to_record n m a b = laid_record s d.salt new (long d v o bytes) m (pads n) v (to_stands s way (record_of (shape_of d) v) d.present n a) b

  laid_to-contents : (n f : ℕ) → n < d.n → f < d.p → contents_of d (here n) n f ≡ contents_of d v n f
  laid_to-contents n f a b =
      contents-told d v (here n) n f (laid_to_record n n (omega (arith, a)) a)
      (laid-stored s d.salt new (long d v o bytes) n f a b (pads n) v (below_far s n f a b way (record_of (shape_of d) v) d.present n (omega arith)))

  pub laid-start : laid_to d v o bytes (spot_at (shape_of d) o).nugget ≡ v
  unfolding pads_to laid
  laid-start =
      ap (λ (es : List Entry). laid s d.salt new es v)
      (still_to pads 0 (spot_at s o).nugget (omega arith) (λ m a b. pads-idle_to way m (idle-below d v o (length bytes) (limits s l.limited) m b) d.p (record_of (shape_of d) v) d.present))

  -- one nugget more, laid over what stands
  own : (n : ℕ) (w : List ℕ) → n < d.n → laid s d.salt (new_contents d (here n) o bytes) (pads_by d.p (way n) n (record_of (shape_of d) v n) d.present) w
      ≡ laid s d.salt new (pads_by d.p (way n) n (record_of (shape_of d) v n) d.present) w
  unfolding pads_by
  own n w a =
      let on = bit (enciphered (way n) (record_of (shape_of d) v n)) in
      let es = pads_by d.p (way n) n (record_of (shape_of d) v n) d.present in
      laid-alike s d.salt (new_contents d (here n) o bytes) new es w
      (each_map (Of n on d.p) (λ e. new_contents d (here n) o bytes e.nugget e.flake ≡ new e.nugget e.flake) es
      (λ e x. rw x.own (ap (λ (was : List ℕ). written s o bytes n e.flake was) (laid_to-contents n e.flake a x.few)))
      (each-pads n (keycount_after (way n) (record_of (shape_of d) v n)) d.present on d.p))

  pub laid-turn : (n : ℕ) {w x : List ℕ} {y : Way} → n < d.n → w ≡ laid_to d v o bytes n → y ≡ write_way d w o (length bytes) n
      → x ≡ laid (shape_of d) d.salt (new_contents d w o bytes) (pads_by d.p y n (record_of (shape_of d) w n) d.present) w → x ≡ laid_to d v o bytes (n + 1)
  unfolding pads_to
  laid-turn n {w = w} a ew ey ex =
      let r : record_of (shape_of d) (here n) n ≡ record_of (shape_of d) v n = laid_to_record n n (omega (arith, a)) a in
      ex
      ∙ ap (λ (q : Way). laid s d.salt (new_contents d w o bytes) (pads_by d.p q n (record_of (shape_of d) w n) d.present) w) ey
      ∙ ap (λ (u : List ℕ). laid s d.salt (new_contents d u o bytes) (pads_by d.p (write_way d u o (length bytes) n) n (record_of (shape_of d) u n) d.present) u) ew
      ∙ ap (λ (q : Record). laid s d.salt (new_contents d (here n) o bytes) (pads_by d.p (way_of q (touched_of s o (length bytes) n) d.epoch) n q d.present) (here n)) r
      ∙ own n (here n) a
      ∙ sym (laid-append s d.salt new (pads n) (pads_by d.p (way n) n (record_of (shape_of d) v n) d.present) v)
      ∙ ap here (sym (add-one n))

  pub laid_end : (n : ℕ) → 0 < length bytes → (spot_at (shape_of d) (o + (length bytes - 1))).nugget < n → n ≤ d.n → laid_to d v o bytes n ≡ laid_to d v o bytes d.n
  laid_end n some past few =
      ap (λ (es : List Entry). laid s d.salt new es v)
      (sym (still_to pads n d.n few (λ m a b. pads-idle_to way m (idle-above d v o (length bytes) (limits s l.limited) m some (omega (arith, past, a))) d.p (record_of (shape_of d) v) d.present)))

-- records, made of those that stand
module _ (d : Drive) (v : List ℕ) (o len : ℕ) (l : Shaped (shape_of d) v) where
  abbrev marks : ℕ → List ℕ
  marks = marks_to d v o len

  pub marks_record : (n : ℕ) → record_of (shape_of d) (marks_to d v o len n) n ≡ record_of (shape_of d) v n
  marks_record n = record_told (shape_of d) (record_at (shape_of d) n) (marks n) v (marks_later (shape_of d) d.epoch (write_way d v o len) v n n v (omega arith))

  pub mark-start : marks_to d v o len (spot_at (shape_of d) o).nugget ≡ v
  unfolding marked_to
  mark-start =
      still_to marks 0 (spot_at (shape_of d) o).nugget (omega arith) (λ m a b.
      marked-idle (write_way d v o len) m (idle-below d v o len (limits (shape_of d) l.limited) m b) (shape_of d) d.epoch v v)

  pub mark-turn : (n : ℕ) {w x : List ℕ} {y : Way} → w ≡ marks_to d v o len n → y ≡ write_way d w o len n → x ≡ marked (shape_of d) d.epoch y (record_of (shape_of d) w n) n w → x ≡ marks_to d v o len (n + 1)
  unfolding marked_to
  mark-turn n {w = w} ew ey ex =
      ex
      ∙ ap (λ (q : Way). marked (shape_of d) d.epoch q (record_of (shape_of d) w n) n w) ey
      ∙ ap (λ (u : List ℕ). marked (shape_of d) d.epoch (write_way d u o len n) (record_of (shape_of d) u n) n u) ew
      ∙ ap (λ (q : Record). marked (shape_of d) d.epoch (way_of q (touched_of (shape_of d) o len n) d.epoch) q n (marks n)) (marks_record n)
      ∙ ap marks (sym (add-one n))

  pub mark_end : (n : ℕ) → 0 < len → (spot_at (shape_of d) (o + (len - 1))).nugget < n → n ≤ d.n → marks_to d v o len n ≡ marks_to d v o len d.n
  mark_end n some past few =
      sym (still_to marks n d.n few (λ m a b.
      marked-idle (write_way d v o len) m (idle-above d v o len (limits (shape_of d) l.limited) m some (omega (arith, past, a))) (shape_of d) d.epoch v v))

-- which nuggets are idle doesn't rest on their records
idle-alike : (d : Drive) (v w : List ℕ) (o len n : ℕ) → idles (write_way d w o len n) ≡ idles (write_way d v o len n)
idle-alike d v w o len n =
    idles_way (record_of (shape_of d) w n) (touched_of (shape_of d) o len n) d.epoch ∙ sym (idles_way (record_of (shape_of d) v n) (touched_of (shape_of d) o len n) d.epoch)

tend-alike : (s : Shape) (a b : Way) (n : ℕ) (w : List ℕ) → idles a ≡ idles b → tended s a n w ≡ tended s b n w
unfolding tended
tend-alike s a b n w e = rw e refl

-- leaves and paths
module _ (d : Drive) (v : List ℕ) (o len : ℕ) (l : Shaped (shape_of d) v) where
  abbrev tends : ℕ → List ℕ
  tends = tends_to d v o len

  pub tend-start : tends_to d v o len (spot_at (shape_of d) o).nugget ≡ v
  unfolding tended_to
  tend-start =
      still_to tends 0 (spot_at (shape_of d) o).nugget (omega arith) (λ m a b.
      tended-idle (write_way d v o len) m (idle-below d v o len (limits (shape_of d) l.limited) m b) (shape_of d) v)

  pub tend-turn : (n : ℕ) {s : Shape} {w x : List ℕ} {y : Way} → s ≡ shape_of d → w ≡ tends_to d v o len n → y ≡ write_way d w o len n → x ≡ tended s y n w → x ≡ tends_to d v o len (n + 1)
  unfolding tended_to
  tend-turn n {w = w} {y = y} es ew ey ex =
      ex
      ∙ ap (λ (z : Shape). tended z y n w) es
      ∙ tend-alike (shape_of d) y (write_way d v o len n) n w (ap idles ey ∙ idle-alike d v w o len n)
      ∙ ap (λ (u : List ℕ). tended (shape_of d) (write_way d v o len n) n u) ew
      ∙ ap tends (sym (add-one n))

  pub tend_end : (n : ℕ) → 0 < len → (spot_at (shape_of d) (o + (len - 1))).nugget < n → n ≤ d.n → tends_to d v o len n ≡ tends_to d v o len d.n
  tend_end n some past few =
      sym (still_to tends n d.n few (λ m a b.
      tended-idle (write_way d v o len) m (idle-above d v o len (limits (shape_of d) l.limited) m some (omega (arith, past, a))) (shape_of d) v))

-- the records of one volume stored over another that has the same
marks_alike : (d : Drive) (a b : List ℕ) (o len n : ℕ) (w : List ℕ) → ((m : ℕ) → m < n → record_of (shape_of d) a m ≡ record_of (shape_of d) b m)
    → marked_to (shape_of d) d.epoch (write_way d a o len) a n w ≡ marked_to (shape_of d) d.epoch (write_way d b o len) b n w
unfolding marked_to
marks_alike d a b o len zero w h = refl
marks_alike d a b o len (suc n) w h =
    ap (λ (r : Record). marked (shape_of d) d.epoch (way_of r (touched_of (shape_of d) o len n) d.epoch) r n (marked_to (shape_of d) d.epoch (write_way d a o len) a n w)) (h n (omega arith))
    ∙ ap (marked (shape_of d) d.epoch (write_way d b o len n) (record_of (shape_of d) b n) n) (marks_alike d a b o len n w (λ m q. h m (omega (arith, q))))

tends_alike : (d : Drive) (a b : List ℕ) (o len n : ℕ) (w : List ℕ) → tended_to (shape_of d) (write_way d a o len) n w ≡ tended_to (shape_of d) (write_way d b o len) n w
unfolding tended_to
tends_alike d a b o len zero w = refl
tends_alike d a b o len (suc n) w =
    tend-alike (shape_of d) (write_way d a o len n) (write_way d b o len n) n (tended_to (shape_of d) (write_way d a o len) n w) (idle-alike d b a o len n)
    ∙ ap (tended (shape_of d) (write_way d b o len n) n) (tends_alike d a b o len n w)

-- the three loops one after another are the work of the write
module _ (d : Drive) (v : List ℕ) (o : ℕ) (bytes : List ℕ) (l : Shaped (shape_of d) v) where
  pub room_after : {x : List ℕ} → x ≡ laid_to d v o bytes d.n → Room d v o (length bytes) → Room d x o (length bytes)
  room_after {x} ex room n h =
      room-told d v x o (length bytes) n refl (ap (λ (u : List ℕ). record_of (shape_of d) u n) ex ∙ laid_to_record d v o bytes l d.n n (omega arith) h) (room n h)

  pub all_work : {x y z : List ℕ} → x ≡ laid_to d v o bytes d.n → y ≡ marked_to (shape_of d) d.epoch (write_way d x o (length bytes)) x d.n x
      → z ≡ tended_to (shape_of d) (write_way d y o (length bytes)) d.n y → z ≡ write_work d v o bytes
  unfolding worked
  all_work {y = y} ex ey ez =
      let one = laid_to d v o bytes d.n in
      let len = length bytes in
      let two : y ≡ marked_to (shape_of d) d.epoch (write_way d v o len) v d.n one =
      ey ∙ ap (λ (u : List ℕ). marked_to (shape_of d) d.epoch (write_way d u o len) u d.n u) ex ∙ marks_alike d one v o len d.n one (λ m h. laid_to_record d v o bytes l d.n m (omega arith) h) in
      ez ∙ tends_alike d y v o len d.n y ∙ ap (tended_to (shape_of d) (write_way d v o len) d.n) two
