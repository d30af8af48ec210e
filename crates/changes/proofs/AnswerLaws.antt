-- What an accepted write, begin, sweep or finish says of drive and volume: the tests that its answer came through.
use mathlib.Core.Path.{◌≡◌, refl, sym, ap, ◌∙◌}
use mathlib.Core.Bool.{true, false}
use mathlib.Core.List.{List}
use Prim.Native.Nat.{ℕ, ◌+◌, ◌^◌, ◌<◌, ◌≤◌}
use native.Mathlib.Omega.{arith}
use lib.Dec.{eqb, ltb}
use borrow.Author.Tests.{ne_eqb, eqb-false, ltb-true, ltb-false}
use Rattle.base.specs.Lists.{same}
use Rattle.base.proofs.PickLaws.{no}
use Rattle.layout.specs.Shaped.{Shaped}
use Rattle.layout.specs.Spots.{capacity}
use Rattle.answers.specs.Answer as A
use Rattle.answers.specs.Numbers.{accepts}
use Rattle.answers.proofs.StageLaws.{passed, both_stages, spared, accepted_is}
use Rattle.records.specs.declared.Way.{Way}
use Rattle.records.specs.declared.Way.TheVariants.{Idle, Add, Rekey, Clear}
use Rattle.records.specs.Rule.{sweep_way, rekeys, CanRise}
use Rattle.records.specs.Record.{record_of}
use Rattle.records.proofs.RuleLaws.{formed-keycount}
use Rattle.tree.specs.Whole.{whole_of}
use Rattle.tree.proofs.PathLaws.{path-formed}
use Rattle.drive.specs.declared.Drive.{Drive}
use Rattle.drive.specs.Drive.{shape_of, gauge_of, is_changing, counter_top}
use Rattle.drive.specs.Opening.{opening_of}
use Rattle.drive.proofs.OpeningLaws.{opening_lent}
use Rattle.nuggets.specs.Tests.{path_for, flakes_of}
use Rattle.nuggets.specs.Touched.{fits_in}
use Rattle.nuggets.proofs.TouchLaws.{fits-within}
use Rattle.reports.specs.Counts.{moved_in}
use Rattle.reports.proofs.CountLaws.{moved_le}
use Rattle.changes.specs.Change.{idles, nugget_change}
use Rattle.changes.specs.Write.{write_way, write_answer}
use Rattle.changes.specs.Rekey.{epoch_top, begin_tests, begin_answer, move_tests, nugget_tests, sweep_answer, left_in, finish_tests, finish_answer}
use Rattle.changes.specs.First.{ThirteenFirst}
use Rattle.changes.proofs.SpanLaws.{tested_each}

pub record Begins (d : Drive) (v : List ℕ) : Type 0 where
  pub opens : opening_of d v ≡ A.Accepted
  pub lent : Shaped (shape_of d) v
  pub steady : is_changing d.state ≡ false
  pub epoch_room : d.epoch ≡ epoch_top → ⊥
  pub counter_room : d.counter ≡ counter_top → ⊥

pub begin-told : (d : Drive) (v secret : List ℕ) → accepts (begin_answer d v secret) ≡ true → Begins d v
unfolding begin_answer begin_tests
begin-told d v secret e =
    let opened = both_stages (opening_of d v) _ e in
    let steady = spared (is_changing d.state) A.State _ refl opened.1 in
    let other = spared (same secret d.present) A.SameSecret _ refl steady.1 in
    let epoch = spared (eqb d.epoch epoch_top) A.EpochTop _ refl other.1 in
    let counter = spared (eqb d.counter counter_top) A.CounterTop _ refl epoch.1 in
    record {
      opens = accepted_is (opening_of d v) opened.0;
      lent = opening_lent d v opened.0;
      steady = steady.0;
      epoch_room = eqb-false d.epoch epoch_top epoch.0;
      counter_room = eqb-false d.counter counter_top counter.0;
    }

-- "7 path, [..] 7 flakes": all of J
pub record Moves (d : Drive) (v : List ℕ) (n : ℕ) : Type 0 where
  pub opens : opening_of d v ≡ A.Accepted
  pub lent : Shaped (shape_of d) v
  pub changing : is_changing d.state ≡ true
  pub inside : n < d.n
  pub path : path_for d v n ≡ A.Accepted
  pub counter_room : d.counter ≡ counter_top → ⊥
  pub flakes : flakes_of d v n (record_of (shape_of d) v n).held ≡ A.Accepted

pub sweep-told : (d : Drive) (v : List ℕ) (n : ℕ) → accepts (sweep_answer d v n) ≡ true → Moves d v n
unfolding sweep_answer nugget_tests move_tests
sweep-told d v n e =
    let opened = both_stages (opening_of d v) _ e in
    let changing = passed (is_changing d.state) _ A.State refl opened.1 in
    let below = passed (ltb n d.n) _ A.PastEnd refl changing.1 in
    let path = both_stages (path_for d v n) _ below.1 in
    let left = spared (eqb (record_of (shape_of d) v n).epoch d.epoch) A.Moved _ refl path.1 in
    let counter = spared (eqb d.counter counter_top) A.CounterTop _ refl left.1 in
    record {
      opens = accepted_is (opening_of d v) opened.0;
      lent = opening_lent d v opened.0;
      changing = changing.0;
      inside = ltb-true n d.n below.0;
      path = accepted_is (path_for d v n) path.0;
      counter_room = eqb-false d.counter counter_top counter.0;
      flakes = accepted_is (flakes_of d v n (record_of (shape_of d) v n).held) counter.1;
    }

pub record Finishes (d : Drive) (v : List ℕ) : Type 0 where
  pub opens : opening_of d v ≡ A.Accepted
  pub lent : Shaped (shape_of d) v
  pub changing : is_changing d.state ≡ true
  pub whole : whole_of (shape_of d) (gauge_of d) v ≡ A.Accepted
  pub counter_room : d.counter ≡ counter_top → ⊥
  -- "finish with nuggets left" is refused
  pub every_moved : moved_in (shape_of d) d.epoch v d.n ≡ d.n

pub finish-told : (d : Drive) (v : List ℕ) → accepts (finish_answer d v) ≡ true → Finishes d v
unfolding finish_answer finish_tests
finish-told d v e =
    let opened = both_stages (opening_of d v) _ e in
    let changing = passed (is_changing d.state) _ A.State refl opened.1 in
    let whole = both_stages (whole_of (shape_of d) (gauge_of d) v) _ changing.1 in
    let none = spared (ltb 0 (left_in d v)) (A.Left (left_in d v)) _ refl whole.1 in
    let counter = spared (eqb d.counter counter_top) A.CounterTop _ refl none.1 in
    record {
      opens = accepted_is (opening_of d v) opened.0;
      lent = opening_lent d v opened.0;
      changing = changing.0;
      whole = accepted_is (whole_of (shape_of d) (gauge_of d) v) whole.0;
      counter_room = eqb-false d.counter counter_top counter.0;
      every_moved = omega (arith, ltb-false 0 (left_in d v) none.0, moved_le (shape_of d) d.epoch v d.n);
    }

-- of a nugget that a change touches: "path; [..] flakes, ascending"; "a rekey tests all of J"
pub record Tests (d : Drive) (v : List ℕ) (n : ℕ) (way : Way) : Type 0 where
  pub path : path_for d v n ≡ A.Accepted
  pub flakes : rekeys way ≡ true → flakes_of d v n (record_of (shape_of d) v n).held ≡ A.Accepted

change_told : (d : Drive) (v : List ℕ) (n : ℕ) (way : Way) → idles way ≡ false → accepts (nugget_change d v n way) ≡ true → Tests d v n way
unfolding nugget_change
change_told d v n way some e =
    let stages = both_stages (path_for d v n) _ (rw some at e) in
    record { path = accepted_is (path_for d v n) stages.0; flakes = λ r. accepted_is _ (rw r at stages.1) }

-- "All others start 1, 2, 7 head": an empty write too
pub write_opens : (d : Drive) (v : List ℕ) (o len : ℕ) → accepts (write_answer d v o len) ≡ true → opening_of d v ≡ A.Accepted
unfolding write_answer
write_opens d v o len e = accepted_is (opening_of d v) (both_stages (opening_of d v) _ e).0

-- what an accepted write of at least one byte says
pub record Granted (d : Drive) (v : List ℕ) (o len : ℕ) : Type 0 where
  pub lent : Shaped (shape_of d) v
  pub in_range : o + len ≤ capacity (shape_of d)
  pub counter_room : d.counter ≡ counter_top → ⊥
  pub tests : (n : ℕ) → n < d.n → idles (write_way d v o len n) ≡ false → Tests d v n (write_way d v o len n)

pub write-told : (d : Drive) (v : List ℕ) (o len : ℕ) → 0 < len → accepts (write_answer d v o len) ≡ true → Granted d v o len
unfolding write_answer
write-told d v o len some e =
    let way = write_way d v o len in
    let (opens, rest) = both_stages (opening_of d v) _ e in
    let (fits, more) = passed (fits_in (shape_of d) o len) _ A.PastEnd refl rest in
    let full : len ≡ 0 → ⊥ = λ z. omega (arith, z, some) in
    let tests = ap accepts (sym (no {b = eqb len 0} A.Accepted (ne_eqb len 0 full) refl)) ∙ more in
    let (low, nuggets) = spared (eqb d.counter counter_top) A.CounterTop _ refl tests in
    record {
      lent = opening_lent d v opens;
      in_range = fits-within d o len refl fits;
      counter_room = eqb-false d.counter counter_top low;
      tests = λ n h moves. change_told d v n (way n) moves (tested_each d v way d.n n h nuggets);
    }

rekeys_moves : (way : Way) → rekeys way ≡ true → idles way ≡ false
rekeys_moves Idle e = cc
rekeys_moves (Add t) e = refl
rekeys_moves (Rekey t) e = refl
rekeys_moves (Clear m) e = refl

-- "answer 13 always comes first"
pub thirteen_first : ThirteenFirst
thirteen_first d v n wide path low =
    let below = formed-keycount d.p (gauge_of d) (record_of (shape_of d) v n) (path-formed (shape_of d) (gauge_of d) v n path) in
    omega (arith, below, wide, low)

-- so the stores of an accepted change find a successor for every keycount that they raise
pub sweep_rise : {d : Drive} {v : List ℕ} {n : ℕ} → d.counter < 2 ^ 64 → Moves d v n → CanRise sweep_way (record_of (shape_of d) v n)
sweep_rise {d} {v} {n} wide t = λ e. thirteen_first d v n wide t.path t.counter_room

pub write_rise : {d : Drive} {v : List ℕ} {o len : ℕ} → d.counter < 2 ^ 64 → Granted d v o len
    → (n : ℕ) → n < d.n → CanRise (write_way d v o len n) (record_of (shape_of d) v n)
write_rise {d} {v} {o} {len} wide t n h = λ e. thirteen_first d v n wide (t.tests n h (rekeys_moves (write_way d v o len n) e)).path t.counter_room
