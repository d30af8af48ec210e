-- Writes on a drive of one nugget with two flakes of 64 bytes: its record and its counts afterwards, by computation.
use mathlib.Core.Path.{◌≡◌, refl, sym, ap, ap₂, ◌∙◌}
use mathlib.Core.List.{List}
use Prim.Native.Nat.{ℕ, ◌+◌, ◌*◌, ◌<◌, ◌≤◌}
use native.Mathlib.Nat.{zero-add}
use native.Mathlib.Omega.{arith}
use lib.ListN.{length, length-append}
use Rattle.layout.specs.declared.Shape.{Shape}
use Rattle.records.specs.declared.Record.{Record}
use Rattle.records.specs.declared.Way.{Way}
use Rattle.records.specs.declared.Way.TheVariants.{Idle, Add, Rekey, Clear}
use Rattle.records.specs.Journal.{flake_count}
use Rattle.records.proofs.BitLaws.{without-none}
use Rattle.records.proofs.RuleLaws.{way_clears}
use Rattle.records.specs.Rule.{way_of, cleared_by, enciphered, keycount_after, spent_after, held_after, epoch_after, turned}
use Rattle.records.specs.Listing.{pads_to}
use Rattle.records.proofs.ListingLaws.{length-pads_by}
use Rattle.drive.specs.declared.Drive.{Drive}
use Rattle.drive.specs.Drive.{shape_of, counter_top}
use Rattle.records.specs.Record.{record_of}
use Rattle.nuggets.specs.Touched.{touched_of}
use Rattle.reports.specs.Counts.{flakes_in}
use Rattle.opening.specs.Format.{fresh_drive}
use Rattle.changes.specs.Change.{advanced}
use Rattle.changes.specs.Write.{write_way, written_drive}
use Rattle.ledger.specs.Totals.{sum, retired_of, risen}
use Rattle.history.specs.World.{World, write}
use Rattle.history.specs.Step.{world_after, step}
use Rattle.history.specs.History.{Start, begun}
use Rattle.history.proofs.Sound.{Sound}
use Rattle.history.proofs.Steps.{start_sound, step_sound, begun_drive_lem, begun_record}
use Rattle.history.proofs.Written.{written_drive_lem, written_record, written-listing}
use Rattle.figures.specs.Figures.{small}

-- the nugget's record under the first epoch
abbrev pub first : ℕ → ℕ → Record
first k j = record { keycount = k; spent = j; held = j; epoch = 1 }

-- what a drive of that shape holds
pub record Holds (w : World) (k j listed retired counter : ℕ) : Type 0 where
  pub sound : Sound w
  pub shaped : shape_of w.drive ≡ small
  pub epoch : w.drive.epoch ≡ 1
  pub counts : w.drive.counter ≡ counter
  pub nugget : record_of (shape_of w.drive) w.vol 0 ≡ first k j
  pub entries : length w.listing ≡ listed
  pub gone : w.retired ≡ retired

pub starts_so : (x : Start) → x.shape ≡ small → Holds (begun x) 0 0 0 0 (x.outside + 1)
unfolding begun fresh_drive
starts_so x e =
    let d = begun_drive_lem x in
    record {
      sound = start_sound x;
      shaped = ap shape_of d ∙ ap (λ (s : Shape). shape_of (fresh_drive s x.salt x.secret x.outside)) e;
      epoch = ap (λ (d : Drive). d.epoch) d;
      counts = ap (λ (d : Drive). d.counter) d;
      nugget = begun_record x 0 (rw e (omega arith));
      entries = refl;
      gone = refl;
    }

-- under the first epoch a nugget stays under it
epoch-stays : (way : Way) (k j : ℕ) → epoch_after way 1 (first k j) ≡ 1
unfolding epoch_after
epoch-stays Idle k j = refl
epoch-stays (Add t) k j = refl
epoch-stays (Rekey t) k j = refl
epoch-stays (Clear m) k j = refl

-- and its masks agree
masks_agree : (way : Way) (k j : ℕ) → cleared_by way ≡ 0 → spent_after way (first k j) ≡ held_after way (first k j)
unfolding spent_after held_after
masks_agree Idle k j z = refl
masks_agree (Add t) k j z = refl
masks_agree (Rekey t) k j z = refl
masks_agree (Clear m) k j z = sym (rw z (without-none j))

-- of one nugget with two flakes: how many pads its way lists, how many flakes are retired, how many are present
module _ (n p : ℕ) (one : n ≡ 1) (two : p ≡ 2) where
  one-listed : (way : ℕ → Way) (records : ℕ → Record) (secret : List ℕ) {t : Way} {r : Record} → way 0 ≡ t → records 0 ≡ r
      → length (pads_to p way records secret n) ≡ flake_count 2 (enciphered t r)
  unfolding pads_to
  one-listed way records secret e q = rw (one, two, ← e, ← q) (length-pads_by 2 (way 0) 0 (records 0) secret)

  one_gone : (before after : ℕ → Record) {r q : Record} → before 0 ≡ r → after 0 ≡ q → risen p n before after ≡ retired_of 2 r q
  unfolding sum
  one_gone before after e q = rw (one, two, e, q) (zero-add _)

  pub one-present : (s : Shape) (v : List ℕ) {r : Record} → record_of s v 0 ≡ r → flakes_in s p v n ≡ flake_count 2 r.held
  unfolding flakes_in
  one-present s v e = rw (one, two, e) (zero-add _)

-- the way of the nugget under a write of len bytes from offset o on
abbrev pub way_at_lem : ℕ → ℕ → ℕ → ℕ → Way
way_at_lem k j o len = way_of (first k j) (touched_of small o len 0) 1

module _ (w : World) {k j listed retired counter : ℕ} (h : Holds w k j listed retired counter) (o len : ℕ) (bytes : List ℕ) (long : length bytes ≡ len)
    (some : 0 < len) (fits : o + len ≤ 128) (low : counter < counter_top) where
  abbrev way : Way
  way = way_at_lem k j o len

  abbrev r : Record
  r = first k j

  abbrev u : World
  u = step w (write o bytes)

  n_is : w.drive.n ≡ 1
  n_is = ap (λ (s : Shape). s.n) h.shaped

  p_is : w.drive.p ≡ 2
  p_is = ap (λ (s : Shape). s.p) h.shaped

  f_is : w.drive.f ≡ 64
  f_is = ap (λ (s : Shape). s.f) h.shaped

  low-now : w.drive.counter < counter_top
  low-now = rw h.counts low

  fits-now : o + length bytes ≤ w.drive.n * w.drive.p * w.drive.f
  fits-now = rw (n_is, p_is, f_is, long) fits

  some-now : 0 < length bytes
  some-now = rw long some

  way_is : write_way w.drive w.vol o (length bytes) 0 ≡ way
  way_is = rw (h.nugget, h.epoch, h.shaped, long) refl

  drive_is : u.drive ≡ written_drive w.drive w.vol o bytes
  drive_is = written_drive_lem w h.sound low-now o bytes fits-now some-now

  nugget_is : record_of (shape_of u.drive) u.vol 0 ≡ turned way 1 r
  nugget_is = written_record w h.sound low-now o bytes fits-now some-now 0 (rw n_is (omega arith)) ∙ rw (way_is, h.nugget, h.epoch) refl

  entries_are : length u.listing ≡ listed + flake_count 2 (enciphered way r)
  entries_are =
      ap length (written-listing w h.sound low-now o bytes fits-now some-now)
      ∙ length-append w.listing _
      ∙ ap₂ (λ (a b : ℕ). a + b) h.entries
      (one-listed w.drive.n w.drive.p n_is p_is (write_way w.drive w.vol o (length bytes)) (record_of (shape_of w.drive) w.vol) w.drive.present way_is h.nugget)

  gone_are : u.retired ≡ retired + retired_of 2 r (turned way 1 r)
  unfolding step world_after
  gone_are = ap₂ (λ (a b : ℕ). a + b) h.gone (one_gone w.drive.n w.drive.p n_is p_is (record_of (shape_of w.drive) w.vol) (record_of (shape_of u.drive) u.vol) h.nugget nugget_is)

  pub holds_on : Holds (step w (write o bytes)) (keycount_after (way_at_lem k j o len) (first k j)) (held_after (way_at_lem k j o len) (first k j))
      (listed + flake_count 2 (enciphered (way_at_lem k j o len) (first k j))) (retired + retired_of 2 (first k j) (turned (way_at_lem k j o len) 1 (first k j))) (counter + 1)
  unfolding advanced
  holds_on =
      record {
        sound = step_sound w (write o bytes) h.sound;
        shaped = ap shape_of drive_is ∙ h.shaped;
        epoch = ap (λ (d : Drive). d.epoch) drive_is ∙ h.epoch;
        counts = ap (λ (d : Drive). d.counter) drive_is ∙ ap (λ (c : ℕ). c + 1) h.counts;
        nugget = nugget_is ∙ (λ i. record { keycount = keycount_after way r; spent = masks_agree way k j (way_clears r (touched_of small o len 0) 1) i; held = held_after way r; epoch = epoch-stays way k j i });
        entries = entries_are;
        gone = gone_are;
      }
