-- Export and import over histories: the table, the one write, and the way there and back.
use mathlib.Core.Path.{◌≡◌, refl, sym, ap, subst, ◌∙◌}
use mathlib.Core.Bool.{Bool, true, false}
use mathlib.Core.Logic.{⊎_elim}
use mathlib.Core.List.{List, [], ◌∷◌, ◌++◌, append-nil}
use Prim.Native.Nat.{ℕ, ◌+◌, ◌*◌, ◌%◌, ◌<◌, ◌≤◌, max, min}
use native.Mathlib.Nat.{mul-le-mul, mul-le-mul_right}
use native.Mathlib.Omega.{arith}
use lib.Dec.{eqb}
use lib.ListN.{length, get_or, replicate, length-replicate}
use borrow.Author.Tests.{eqb-true, ne_eqb, le-leb, lt-ltb}
use Rattle.base.specs.Pick.{pick, both}
use Rattle.base.specs.Lists.{same}
use Rattle.base.proofs.PickLaws.{yes, no, told, clash, both-on, both_right, either_right}
use Rattle.base.proofs.TabLaws.{get_or-tab}
use Rattle.words.specs.Le.{Bytes}
use Rattle.layout.specs.declared.Shape.{Shape}
use Rattle.layout.specs.Spots.{capacity, offset_at}
use Rattle.layout.specs.Shaped.{Shaped}
use Rattle.layout.proofs.Limits.{limits, inside}
use Rattle.layout.proofs.Places.{index_lt}
use Rattle.answers.specs.Answer.{Answer}
use Rattle.answers.specs.Answer as A
use Rattle.answers.specs.Numbers.{accepts}
use Rattle.answers.proofs.StageLaws.{goes_on, stops, first-answers, both_stages, accepted_is}
use Rattle.records.specs.declared.Record.{Record}
use Rattle.records.specs.declared.Way.{Way}
use Rattle.records.specs.declared.Way.TheVariants.{Idle, Add, Rekey, Clear}
use Rattle.records.specs.Journal.{bit}
use Rattle.records.specs.Record.{record_of}
use Rattle.records.specs.Rule.{way_of, touched_by, held_after}
use Rattle.records.specs.Listing.{Entry}
use Rattle.records.proofs.BitLaws.{bit-union, bit-empty}
use Rattle.records.proofs.MaskLaws.{bit_with}
use Rattle.records.proofs.RuleLaws.{way_touched}
use Rattle.drive.specs.declared.Drive.{Drive}
use Rattle.drive.specs.declared.Done.{Done}
use Rattle.drive.specs.Drive.{shape_of, counter_top}
use Rattle.drive.specs.Opening.{opening_of}
use Rattle.drive.proofs.OpeningLaws.{opening_lent}
use Rattle.nuggets.specs.Touched.{meets, touched_of}
use Rattle.reading.specs.Read.{read_answer, read_buffer}
use Rattle.changes.specs.Change.{advanced}
use Rattle.changes.specs.Write.{write_answer, written_drive}
use Rattle.changes.proofs.AnswerLaws.{write-told}
use Rattle.sectors.specs.Sectors.{encrypted_from, decrypted_from}
use Rattle.sectors.proofs.SectorLaws.{length-encrypted, decrypted-back}
use Rattle.handing.specs.Handing.{in_sectors, hand_answer, export_answer, import_answer, export_buffer, import_bytes}
use Rattle.handing.proofs.HandLaws.{hand_told}
use Rattle.history.specs.World.{World, Call, asks, read, write}
use Rattle.history.specs.Step.{answer_to, world_after, step}
use Rattle.history.specs.History.{Start, begun, run, history}
use Rattle.history.specs.Answers.{counter_full}
use Rattle.history.proofs.Sound.{Sound}
use Rattle.history.proofs.Steps.{sound}
use Rattle.history.proofs.Table.{exactly}
use Rattle.history.proofs.Demands.{reads_back}
use Rattle.history.proofs.Runs.{run-append, step-writes}
use Rattle.history.proofs.Written.{written_drive_lem, written_record}
use Rattle.handed.specs.Runs.{import_calls, HoldsImport, ImportHistory, whole_sectors, export_due, import_due, HandsExactly, SameContents, ImportAfterExport}
use Rattle.handed.proofs.Calls.{export_stages, exported, read-long, import_is_write, import-refused-first}

-- the table
module _ (w : World) (x : Sound w) (one two : List ℕ) (len : ℕ) where
  abbrev s : Shape
  s = shape_of w.drive

  lent : Shaped (shape_of w.drive) w.vol
  lent = opening_lent w.drive w.vol (ap accepts x.untouched.opens)

  hand_exact : hand_answer w.drive w.vol one two len ≡ pick (whole_sectors w len) (pick (same one two) A.SameSecret A.Accepted) A.Length
  unfolding hand_answer in_sectors
  hand_exact =
      goes_on (opening_of w.drive w.vol) _ (ap accepts x.untouched.opens)
      ∙ ap (λ (y : ℕ). pick (both (eqb (y % 512) 0) (eqb len y)) (pick (same one two) A.SameSecret A.Accepted) A.Length) (inside s lent.limited)

  hand_off : whole_sectors w len ≡ false → accepts (hand_answer w.drive w.vol one two len) ≡ false
  hand_off e = ap accepts hand_exact ∙ ap (λ (b : Bool). accepts (pick b (pick (same one two) A.SameSecret A.Accepted) A.Length)) e ∙ refl

  module _ (e : whole_sectors w len ≡ true) where
    size : len ≡ capacity (shape_of w.drive)
    size =
        let whole = w.drive.n * w.drive.p * w.drive.f in
        eqb-true len whole (both_right (eqb (whole % 512) 0) (eqb len whole) e)

    abbrev blank : List ℕ
    blank = replicate len 0

    filler : length blank ≡ len
    filler = length-replicate len 0

    some : 0 < len
    some =
        let l = limits s lent.limited in
        let many : 1 * 1 * 64 ≤ capacity s = mul-le-mul (mul-le-mul l.some l.flakes) l.wide in
        omega (arith, size, many)

    read-on : read_answer w.drive w.vol 0 len ≡ A.Accepted
    read-on =
        ap (λ (n : ℕ). read_answer w.drive w.vol 0 n) (sym filler)
        ∙ exactly w x (asks (read 0 blank))
        ∙ yes _ (le-leb (0 + length blank) (capacity s) (omega (arith, filler, size))) refl

    write-on : write_answer w.drive w.vol 0 len ≡ pick (counter_full w) A.CounterTop A.Accepted
    write-on =
        ap (λ (n : ℕ). write_answer w.drive w.vol 0 n) (sym filler)
        ∙ exactly w x (write 0 blank)
        ∙ yes _ (le-leb (0 + length blank) (capacity s) (omega (arith, filler, size))) (no _ (ne_eqb (length blank) 0 (λ z. omega (arith, z, filler, some))) refl)

  export_exact : export_answer w.drive w.vol one two len ≡ export_due w one two len
  unfolding export_answer
  export_exact =
      ⊎_elim
      (λ (e : whole_sectors w len ≡ true). first-answers (hand_answer w.drive w.vol one two len) _ (read-on e) ∙ hand_exact)
      (λ (e : whole_sectors w len ≡ false). stops (hand_answer w.drive w.vol one two len) _ (hand_off e) ∙ hand_exact)
      (told (whole_sectors w len))

  import_exact : import_answer w.drive w.vol one two len ≡ import_due w one two len
  unfolding import_answer
  import_exact =
      let a = hand_answer w.drive w.vol one two len in
      ⊎_elim
      (λ (e : whole_sectors w len ≡ true).
      ⊎_elim
      (λ (k : same one two ≡ true).
      let twice : a ≡ A.SameSecret = hand_exact ∙ yes _ e (yes _ k refl) in
      stops a _ (ap accepts twice) ∙ twice ∙ sym (yes _ e (yes _ k refl)))
      (λ (k : same one two ≡ false). goes_on a _ (ap accepts (hand_exact ∙ yes _ e (no _ k refl))) ∙ write-on e ∙ sym (yes _ e (no _ k refl)))
      (told (same one two)))
      (λ (e : whole_sectors w len ≡ false). stops a _ (hand_off e) ∙ hand_exact ∙ no _ e refl ∙ sym (no _ e refl))
      (told (whole_sectors w len))

pub hands_exactly : HandsExactly
hands_exactly start calls one two len =
    let w = history start calls in
    (export_exact w (sound start calls) one two len, import_exact w (sound start calls) one two len)

-- one write, or none
module _ (start : Start) (calls : List Call) (one two bytes : List ℕ) where
  abbrev w : World
  w = history start calls

  abbrev plain : List ℕ
  plain = import_bytes one two bytes

  abbrev hand : Answer
  hand = hand_answer w.drive w.vol one two (length bytes)

  pub after_on : accepts hand ≡ true → history start (calls ++ import_calls w one two bytes) ≡ step w (write 0 plain)
  unfolding run
  after_on on =
      ap (λ (c : List Call). history start (calls ++ c)) (yes {A = List Call} [] on refl) ∙ run-append (begun start) calls (write 0 plain ∷ [])

  after_off : accepts hand ≡ false → history start (calls ++ import_calls w one two bytes) ≡ w
  after_off off = ap (λ (c : List Call). history start (calls ++ c)) (no {A = List Call} (write 0 plain ∷ []) off refl) ∙ ap (history start) (append-nil calls)

  made : accepts hand ≡ true → HoldsImport w one two bytes (step w (write 0 plain))
  unfolding step world_after
  made on =
      let e = import_is_write w.drive w.vol one two bytes (accepted_is hand on) in
      record {
        drive = sym (ap (λ (x : Done). x.drive) e.0);
        vol = sym e.1;
        listing = ap (λ (p : List Entry). w.listing ++ p) (sym e.2);
        secret = refl;
        old = refl;
      }

  kept : accepts hand ≡ false → HoldsImport w one two bytes w
  kept off =
      let e = import-refused-first w.drive w.vol one two bytes off in
      record {
        drive = sym (ap (λ (x : Done). x.drive) e.0);
        vol = sym e.1;
        listing = sym (append-nil w.listing) ∙ ap (λ (p : List Entry). w.listing ++ p) (sym e.2);
        secret = refl;
        old = refl;
      }

pub import-history : ImportHistory
import-history start calls one two bytes =
    let w = history start calls in
    ⊎_elim
    (λ (on : accepts (hand_answer w.drive w.vol one two (length bytes)) ≡ true). subst (HoldsImport w one two bytes) (sym (after_on start calls one two bytes on)) (made start calls one two bytes on))
    (λ (off : accepts (hand_answer w.drive w.vol one two (length bytes)) ≡ false). subst (HoldsImport w one two bytes) (sym (after_off start calls one two bytes off)) (kept start calls one two bytes off))
    (told (accepts (hand_answer w.drive w.vol one two (length bytes))))

-- a touched flake is held afterwards
touched-held : (way : Way) (r : Record) (f : ℕ) → bit (touched_by way) f ≡ true → bit (held_after way r) f ≡ true
unfolding held_after
touched-held Idle r f on = absurd (clash on (bit-empty f))
touched-held (Add t) r f on = bit-union r.held t f ∙ either_right (bit r.held f) on
touched-held (Rekey t) r f on = bit-union r.held t f ∙ either_right (bit r.held f) on
touched-held (Clear m) r f on = absurd (clash on (bit-empty f))

-- a write of the whole touches every flake
module _ (s : Shape) (n f len : ℕ) (a : n < s.n) (b : f < s.p) (size : len ≡ capacity s) (wide : 0 < s.f) where
  touches : bit (touched_of s 0 len n) f ≡ true
  unfolding touched_of meets
  touches =
      let room = mul-le-mul_right s.f (index_lt s n f a b) in
      bit_with s.p (meets s 0 len n) f
      ∙ both-on (lt-ltb f s.p b) (lt-ltb (max 0 (offset_at s n f 0)) (min (0 + len) (offset_at s n f s.f)) (omega (arith, room, size, wide)))

  pub held_all : (r : Record) (head : ℕ) → bit (held_after (way_of r (touched_of s 0 len n) head) r) f ≡ true
  held_all r head =
      let t = touched_of s 0 len n in
      touched-held (way_of r t head) r f (ap (λ (k : ℕ). bit k f) (way_touched r t head) ∙ touches)

module _ (start other : Start) (calls others : List Call) (one two out : List ℕ) where
  abbrev from : World
  from = history start calls

  abbrev into : World
  into = history other others

  abbrev text : List ℕ
  text = read_buffer from.drive from.vol 0 out

  abbrev handed : List ℕ
  handed = export_buffer from.drive from.vol one two out

  module _ (e : export_answer from.drive from.vol one two (length out) ≡ A.Accepted) (b : Bytes text) (i : import_answer into.drive into.vol one two (length handed) ≡ A.Accepted) where
    stages : (accepts (hand_answer from.drive from.vol one two (length out)) ≡ true) × (accepts (read_answer from.drive from.vol 0 (length out)) ≡ true)
    stages = export_stages from.drive from.vol one two out (ap accepts e)

    text_long : length text ≡ length out
    text_long = read-long from.drive from.vol one two out (ap accepts e)

    even : length text % 512 ≡ 0
    even = ap (λ (n : ℕ). n % 512) text_long ∙ (hand_told from.drive from.vol one two (length out) stages.0).even

    made_of : handed ≡ encrypted_from one two 0 text
    made_of = exported from.drive from.vol one two out (ap accepts e)

    -- what is written is what was read
    back : import_bytes one two handed ≡ text
    back = ap (decrypted_from one two 0) made_of ∙ decrypted-back one two 0 text even b

    handed_long : length handed ≡ length text
    handed_long = ap length made_of ∙ length-encrypted one two 0 text even

    granted : (accepts (hand_answer into.drive into.vol one two (length handed)) ≡ true) × (accepts (write_answer into.drive into.vol 0 (length handed)) ≡ true)
    unfolding import_answer
    granted = both_stages (hand_answer into.drive into.vol one two (length handed)) _ (ap accepts i)

    taken : answer_to into (write 0 text) ≡ A.Accepted
    taken = accepted_is _ (ap (λ (n : ℕ). accepts (write_answer into.drive into.vol 0 n)) (sym handed_long) ∙ granted.1)

    after : history other (others ++ import_calls into one two handed) ≡ step into (write 0 text)
    after = after_on other others one two handed granted.0 ∙ ap (λ (l : List ℕ). step into (write 0 l)) back

    fills : length text ≡ capacity (shape_of into.drive)
    fills = sym handed_long ∙ (hand_told into.drive into.vol one two (length handed) granted.0).whole

    laid : (a : ℕ) → a < length out → (step into (write 0 text)).contents a ≡ from.contents a
    laid a h =
        let z : 0 + a ≡ a = omega arith in
        ap (λ (k : ℕ). (step into (write 0 text)).contents k) (sym z)
        ∙ step-writes into 0 text a (omega (arith, h, text_long)) taken
        ∙ ap (λ (l : List ℕ). get_or l a 0) (reads_back start calls 0 out (accepted_is _ stages.1))
        ∙ get_or-tab (length out) (λ k. from.contents (0 + k)) a 0 h
        ∙ ap from.contents z

    lent_into : Shaped (shape_of into.drive) into.vol
    lent_into = opening_lent into.drive into.vol (ap accepts (sound other others).untouched.opens)

    not_empty : 0 < length text
    not_empty =
        let l = limits (shape_of into.drive) lent_into.limited in
        let many : 1 * 1 * 64 ≤ capacity (shape_of into.drive) = mul-le-mul (mul-le-mul l.some l.flakes) l.wide in
        omega (arith, fills, many)

    low : into.drive.counter < counter_top
    low =
        let room = (write-told into.drive into.vol 0 (length text) not_empty (ap accepts taken)).counter_room in
        omega (arith, (sound other others).handed.counter_lt, room)

    fits : 0 + length text ≤ capacity (shape_of into.drive)
    fits = omega (arith, fills)

    drive-made : (step into (write 0 text)).drive ≡ written_drive into.drive into.vol 0 text
    drive-made = written_drive_lem into (sound other others) low 0 text fits not_empty

    nuggets-same : (step into (write 0 text)).drive.n ≡ into.drive.n
    unfolding advanced
    nuggets-same = ap (λ (d : Drive). d.n) drive-made

    flakes-same : (step into (write 0 text)).drive.p ≡ into.drive.p
    unfolding advanced
    flakes-same = ap (λ (d : Drive). d.p) drive-made

    present : (n f : ℕ) → n < (step into (write 0 text)).drive.n → f < (step into (write 0 text)).drive.p
        → bit (record_of (shape_of (step into (write 0 text)).drive) (step into (write 0 text)).vol n).held f ≡ true
    present n f a b =
        let l = limits (shape_of into.drive) lent_into.limited in
        let here : n < into.drive.n = rw (← nuggets-same) a in
        let there : f < into.drive.p = rw (← flakes-same) b in
        ap (λ (r : Record). bit r.held f) (written_record into (sound other others) low 0 text fits not_empty n here)
        ∙ held_all (shape_of into.drive) n f (length text) here there fills (omega (arith, l.wide)) (record_of (shape_of into.drive) into.vol n) into.drive.epoch

    there_and_back : SameContents (length out) from (step into (write 0 text))
    there_and_back = record { contents = laid; present = present }

pub import-after-export : ImportAfterExport
import-after-export start other calls others one two out e b i =
    subst (SameContents (length out) (history start calls)) (sym (after start other calls others one two out e b i)) (there_and_back start other calls others one two out e b i)
