-- A journey stays sound: what a move leaves is untouched, and the ledger is as it was but for the counter.
use mathlib.Core.Path.{◌≡◌, refl, ap, ◌∙◌}
use mathlib.Core.Bool.{Bool, true, false}
use mathlib.Core.Logic.{⊎_elim}
use mathlib.Core.List.{List, [], ◌∷◌, append-nil}
use Prim.Native.Nat.{ℕ, ◌+◌, ◌<◌, ◌≤◌}
use native.Mathlib.Omega.{arith}
use lib.Dec.{eqb}
use lib.ListN.{length}
use Rattle.base.specs.Pick.{pick}
use Rattle.base.proofs.PickLaws.{told, clash, either-told}
use Rattle.base.proofs.FoldLaws.{same_true}
use Rattle.answers.specs.Answer.{Answer}
use Rattle.answers.specs.Answer as A
use Rattle.answers.specs.Numbers.{accepts}
use Rattle.answers.proofs.StageLaws.{goes_on}
use Rattle.layout.specs.declared.Shape.{Shape}
use Rattle.layout.specs.Shape.{known_version}
use Rattle.layout.specs.Parts.{length_of}
use Rattle.records.specs.declared.Record.{Record}
use Rattle.records.specs.Record.{record_of, Codes}
use Rattle.keys.specs.Pads.{pad_of}
use Rattle.keys.specs.Tags.{covered, tag_of}
use Rattle.tree.specs.Whole.{whole_of}
use Rattle.drive.specs.declared.Drive.{Drive}
use Rattle.drive.specs.declared.State.{State}
use Rattle.drive.specs.declared.State.TheVariants.{Steady, Changing}
use Rattle.drive.specs.Drive.{shape_of, gauge_of, kept_old}
use Rattle.drive.specs.Opening.{measure_of, opening_of}
use Rattle.drive.proofs.OpeningLaws.{opening-measured}
use Rattle.nuggets.specs.Nugget.{secret_for}
use Rattle.nuggets.specs.Tests.{good_flake}
use Rattle.changes.specs.Change.{advanced}
use Rattle.ledger.specs.Ledger.{secret_at, entry_at}
use Rattle.ledger.specs.Step.{Kept, Calm}
use Rattle.ledger.proofs.TotalLaws.{risen-none}
use Rattle.ledger.proofs.CalmLaws.{calms}
use Rattle.ledger.proofs.Theorems.{no_entry_twice}
use Rattle.history.specs.World.{World, Call, mount, write, begin, sweep, finish, discard, asks}
use Rattle.history.specs.Step.{answer_to, world_after, step}
use Rattle.history.specs.History.{Start, begun, run, among}
use Rattle.history.specs.Answers.{Columns, columns_of, columns_after}
use Rattle.history.specs.Demands.{plain_in}
use Rattle.history.proofs.Quiet.{whole_quiet, flakes_quiet}
use Rattle.history.proofs.View.{kit_of, ledger_of, secret_seen}
use Rattle.history.proofs.Sound.{Sound, counter_room_lem, same_keeps}
use Rattle.history.proofs.Steps.{start_sound, step_sound, mount-back}
use Rattle.history.proofs.Table.{exactly}
use Rattle.history.proofs.Columns.{follows}
use Rattle.history.proofs.Counters.{step_base, run_raised, head-counter}
use Rattle.history.proofs.Demands.{begun_base}
use Rattle.moving.specs.Carry.{entered, moved_drive, moved_volume}
use Rattle.moving.specs.Move.{ascending, held_tests, parts_tests, leave_tests, move_answer, move_done}
use Rattle.moving.proofs.AnswerLaws.{Leaves, move_told, all_accepted_lem}
use Rattle.moved.specs.Moves.{Typed}
use Rattle.moved.specs.Journeys.{Turn, does, up, down, move_world, turn, travel, journey, sizes_of, JourneySizes, move_due, MovesExactly, CallsExactly, JourneyMounts, JourneyLists, JourneyUnderLastPad, changes_turn, among_turns, JourneyStale}
use Rattle.moved.proofs.After as After

-- what a state keeps of the old secret it keeps again
kept_again : (s : State) (a b : List ℕ) → kept_old s a ≡ b → kept_old s a ≡ kept_old s b
kept_again Steady a b h = refl
kept_again (Changing left) a b h = h

-- an accepted move
module _ (leave enter : ℕ) (known : known_version enter ≡ true) (w : World) (sound : Sound w) (len : ℕ) (x : Leaves leave enter w.drive w.vol len) where
  abbrev d : Drive
  d = w.drive

  abbrev v : List ℕ
  v = w.vol

  abbrev e : Drive
  e = moved_drive enter d v

  abbrev u : List ℕ
  u = moved_volume enter d v

  typed : Typed d
  typed = record { salted = sound.handed.salt_long_lem; epoch_lt = sound.handed.epoch_lt; counter_lt = sound.handed.counter_lt }

  codes : (n : ℕ) → n < d.n → Codes (entered enter d) (record_of (shape_of d) v n)
  codes = After.codes_over leave enter d v len typed x

  abbrev after : World
  after = world_after w e u [] w.secret w.old w.contents

  record_same : (n : ℕ) → n < d.n → record_of (entered enter d) u n ≡ record_of (shape_of d) v n
  record_same n h = After.record_after leave enter d v len known typed.salted codes x n h

  moved-kept : Kept (kit_of d) (ledger_of w) (ledger_of after)
  unfolding world_after advanced plain_in
  moved-kept =
      record {
        same_records = record_same;
        same_stored = λ n f a b. After.stored-after leave enter d v len known typed.salted codes x n f a b;
        same_plain = λ n f a b. refl;
        same_listing = append-nil w.listing;
        same_retired =
            omega (arith, risen-none d.p d.n (record_of (shape_of d) v) (record_of (entered enter d) u) (λ n h. ap (λ (r : Record). r.keycount) (record_same n h)));
        counter_up = omega arith;
      }

  moved_calm : Calm (kit_of d) (ledger_of w) (ledger_of after)
  unfolding world_after advanced secret_at secret_for
  moved_calm =
      record {
        kept = moved-kept;
        still_formed = λ n h. After.formed-after leave enter d v len known typed.salted codes x n h;
        same_secrets = λ n h. After.secret-after leave enter d v len known typed.salted codes x n h;
      }

  moved_sound : Sound after
  unfolding world_after advanced pad_of
  moved_sound =
      record {
        untouched = After.moved-untouched leave enter d v len known typed.salted codes x;
        handed = record {
          epoch_lt = typed.epoch_lt;
          counter_lt = counter_room_lem d.counter typed.counter_lt x.counter_room;
          salt_long_lem = typed.salted;
          kept = kept_again d.state w.old d.old sound.handed.kept;
        };
        present = sound.present;
        counter = refl;
        inv = calms (kit_of d) (ledger_of w) (ledger_of after) sound.inv moved_calm;
      }

move_sound : (leave enter : ℕ) → known_version enter ≡ true → (w : World) (second : List ℕ) → Sound w → Sound (move_world leave enter w second)
unfolding move_world move_done
move_sound leave enter known w second s =
    let a = move_answer leave enter w.drive w.vol (length second) in
    ⊎_elim
    (λ (on : accepts a ≡ true). rw on (moved_sound leave enter known w s (length second) (move_told leave enter w.drive w.vol (length second) on)))
    (λ (off : accepts a ≡ false). rw off (same_keeps w s w.contents (λ n f h l. refl)).sound)
    (told (accepts a))

turn_sound : (w : World) (t : Turn) → Sound w → Sound (turn w t)
unfolding turn known_version
turn_sound w (does c) s = step_sound w c s
turn_sound w (up second) s = move_sound 1 2 refl w second s
turn_sound w (down second) s = move_sound 2 1 refl w second s

travel_sound : (w : World) (turns : List Turn) → Sound w → Sound (travel w turns)
unfolding travel
travel_sound w [] s = s
travel_sound w (t ∷ turns) s = travel_sound (turn w t) turns (turn_sound w t s)

pub sound : (start : Start) (turns : List Turn) → Sound (journey start turns)
sound start turns = travel_sound (begun start) turns (start_sound start)

-- a move changes the version alone
move_sizes : (leave enter : ℕ) (w : World) (second : List ℕ) → let d = (move_world leave enter w second).drive in sizes_of (shape_of d) d.salt ≡ sizes_of (shape_of w.drive) w.drive.salt
unfolding move_world move_done world_after advanced
move_sizes leave enter w second = go (accepts (move_answer leave enter w.drive w.vol (length second)))
  where
    go : (b : Bool) → let d = pick b (moved_drive enter w.drive w.vol) w.drive in sizes_of (shape_of d) d.salt ≡ sizes_of (shape_of w.drive) w.drive.salt
    go true = refl
    go false = refl

turn-sizes : (w : World) (t : Turn) → Sound w → let d = (turn w t).drive in sizes_of (shape_of d) d.salt ≡ sizes_of (shape_of w.drive) w.drive.salt
unfolding turn
turn-sizes w (does c) s = ap (λ (b : Shape × List ℕ). sizes_of b.0 b.1) (step_base w c s)
turn-sizes w (up second) s = move_sizes 1 2 w second
turn-sizes w (down second) s = move_sizes 2 1 w second

travel-sizes : (w : World) (turns : List Turn) → Sound w → let d = (travel w turns).drive in sizes_of (shape_of d) d.salt ≡ sizes_of (shape_of w.drive) w.drive.salt
unfolding travel
travel-sizes w [] s = refl
travel-sizes w (t ∷ turns) s = travel-sizes (turn w t) turns (turn_sound w t s) ∙ turn-sizes w t s

pub journey-sizes : JourneySizes
journey-sizes start turns =
    travel-sizes (begun start) turns (start_sound start) ∙ ap (λ (b : Shape × List ℕ). sizes_of b.0 b.1) (begun_base start)

-- no test of an untouched volume fails but those of the table
due_exactly : (w : World) → Sound w → (leave enter len : ℕ) → move_answer leave enter w.drive w.vol len ≡ move_due leave enter w len
unfolding move_answer leave_tests parts_tests
due_exactly w s leave enter len =
    let d = w.drive in
    let v = w.vol in
    let opens = s.untouched.opens in
    let held : ascending (held_tests d v) d.n 0 ≡ A.Accepted =
    all_accepted_lem (held_tests d v) d.n 0 (λ n a b. flakes_quiet d v s.untouched n (record_of (shape_of d) v n).held (omega arith) (λ f on. on)) in
    goes_on (measure_of d v) _ (opening-measured d v (ap accepts opens))
    ∙ ap (λ (z : Answer). pick (eqb len (length_of (entered enter d))) z A.Length)
    (goes_on (opening_of d v) _ (ap accepts opens)
    ∙ ap (λ (z : Answer). pick (eqb d.version leave) z A.State)
    (goes_on (whole_of (shape_of d) (gauge_of d) v) _ (ap accepts (whole_quiet d v s.untouched))
    ∙ goes_on (ascending (held_tests d v) d.n 0) _ (ap accepts held)))

pub moves_exactly : MovesExactly
moves_exactly start turns leave enter len = due_exactly (journey start turns) (sound start turns) leave enter len

pub calls_exactly : CallsExactly
calls_exactly start turns c = exactly (journey start turns) (sound start turns) c

pub journey-mounts : JourneyMounts
journey-mounts start turns any = mount-back (journey start turns) (sound start turns) any

pub journey-lists : JourneyLists
journey-lists start turns =
    let w = journey start turns in
    let inv = (sound start turns).inv in
    (no_entry_twice (kit_of w.drive) (ledger_of w) inv, inv.tally)

pub journey-under-last-pad : JourneyUnderLastPad
unfolding good_flake tag_of covered secret_at secret_for
journey-under-last-pad start turns n f a b on =
    let w = journey start turns in
    let s = sound start turns in
    record {
      pad = entry_at (ledger_of w) n f;
      last = s.inv.named n f a on;
      laid = s.inv.laid n f a on;
      secret = secret_seen w.drive w.vol w.listing w.retired w.contents (record_of (shape_of w.drive) w.vol n).epoch;
      keycount = refl;
      tagged = same_true _ _ (s.untouched.tags n f a b on);
    }

-- the counter of a call's columns doesn't fall
rises : (b : Bool) (w : World) (c : Call) → w.drive.counter ≤ (pick b (columns_after w (columns_of w) c) (columns_of w)).counter
rises false w c = omega arith
rises true w (mount any) = omega arith
rises true w (write o bytes) = omega arith
rises true w (begin secret) = omega arith
rises true w (sweep n) = omega arith
rises true w finish = omega arith
rises true w (discard n first count) = omega arith
rises true w (asks q) = omega arith

call_up : (w : World) (c : Call) → Sound w → w.outside ≤ (step w c).outside
call_up w c s =
    let same : (step w c).drive.counter ≡ (pick (accepts (answer_to w c)) (columns_after w (columns_of w) c) (columns_of w)).counter = ap (λ (k : Columns). k.counter) (follows w s c) in
    omega (arith, rises (accepts (answer_to w c)) w c, same, s.counter, (step_sound w c s).counter)

-- a move adds 1 if it is accepted
move_up : (leave enter : ℕ) (w : World) (second : List ℕ) → Sound w
    → (move_world leave enter w second).outside ≡ w.outside + pick (accepts (move_answer leave enter w.drive w.vol (length second))) 1 0
unfolding move_world move_done world_after advanced
move_up leave enter w second s = go (accepts (move_answer leave enter w.drive w.vol (length second)))
  where
    go : (b : Bool) → (pick b (moved_drive enter w.drive w.vol) w.drive).counter ≡ w.outside + pick b 1 0
    go true = omega (arith, s.counter)
    go false = omega (arith, s.counter)

turn_up : (w : World) (t : Turn) → Sound w → (w.outside ≤ (turn w t).outside) × (changes_turn w t ≡ true → w.outside < (turn w t).outside)
unfolding turn among run
turn_up w (does c) s = (call_up w c s, λ on. run_raised w (c ∷ []) s (rw on refl))
turn_up w (up second) s = let m = move_up 1 2 w second s in (omega (arith, m), λ on. omega (arith, rw on at m))
turn_up w (down second) s = let m = move_up 2 1 w second s in (omega (arith, m), λ on. omega (arith, rw on at m))

travel-up : (w : World) (turns : List Turn) → Sound w → w.outside ≤ (travel w turns).outside
unfolding travel
travel-up w [] s = omega arith
travel-up w (t ∷ turns) s = omega (arith, (turn_up w t s).0, travel-up (turn w t) turns (turn_sound w t s))

travel_raised : (w : World) (turns : List Turn) → Sound w → among_turns w turns ≡ true → w.outside < (travel w turns).outside
unfolding travel among_turns
travel_raised w [] s on = absurd (clash on refl)
travel_raised w (t ∷ turns) s on =
    ⊎_elim
    (λ here. omega (arith, (turn_up w t s).1 here, travel-up (turn w t) turns (turn_sound w t s)))
    (λ later. omega (arith, (turn_up w t s).0, travel_raised (turn w t) turns (turn_sound w t s) later))
    (either-told (changes_turn w t) (among_turns (turn w t) turns) on)

pub journey_stale : JourneyStale
journey_stale start turns later present old on mounts =
    let w = journey start turns in
    let s = sound start turns in
    omega (arith, head-counter w s present old (travel w later).outside mounts, travel_raised w later s on)
