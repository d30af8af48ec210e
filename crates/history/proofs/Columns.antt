-- What the table goes by, after each call.
use mathlib.Core.Path.{◌≡◌, refl, ap, ◌∙◌}
use mathlib.Core.Bool.{Bool, true, false, not}
use mathlib.Core.Logic.{◌⊎◌, inl, inr}
use mathlib.Core.List.{List}
use Prim.Native.Nat.{ℕ, ◌+◌}
use native.Mathlib.Omega.{arith}
use lib.Dec.{eqb}
use lib.ListN.{length}
use borrow.Author.Tests.{eqb-true, eqb-false, lt-ltb, le-ltb}
use Rattle.base.specs.Pick.{pick}
use Rattle.base.proofs.PickLaws.{told}
use Rattle.answers.specs.Numbers.{accepts}
use Rattle.records.specs.Journal.{many}
use Rattle.drive.specs.declared.Drive.{Drive}
use Rattle.drive.specs.Drive.{is_changing}
use Rattle.opening.specs.Format.{fresh_drive}
use Rattle.changes.specs.Change.{advanced}
use Rattle.changes.specs.Write.{write_answer, write_done}
use Rattle.changes.specs.Rekey.{begin_answer, begun_drive, begin_done, sweep_answer, sweep_done, finish_answer, finished_drive, finish_done}
use Rattle.changes.specs.Discard.{discard_answer, discard_done}
use Rattle.history.specs.World.{World, Call, mount, write, begin, sweep, finish, discard, asks}
use Rattle.history.specs.Step.{answer_to, world_after, step}
use Rattle.history.specs.History.{begun, history}
use Rattle.history.specs.Answers.{changing, is_left, none_held, Columns, columns, columns_of, columns_after, ColumnsStart, ColumnsFollow, BeginLeavesAll}
use Rattle.history.proofs.Counts.{many-full}
use Rattle.history.proofs.Sound.{Sound}
use Rattle.history.proofs.Steps.{begun_drive_lem, sound, mount-same}
use Rattle.history.proofs.Moves.{begin-leaves, begin_moves_none}

either_way : (b : Bool) (k : Columns) → k ≡ pick b k k
either_way true k = refl
either_way false k = refl

module _ (w : World) where
  counted : (k : ℕ) → k ≡ w.drive.counter → columns_of w ≡ columns (changing w) w.drive.epoch k w.secret
  counted k e = rw e refl

  write_follows : (o : ℕ) (bytes : List ℕ) → columns_of (step w (write o bytes))
      ≡ pick (accepts (answer_to w (write o bytes))) (columns_after w (columns_of w) (write o bytes)) (columns_of w)
  unfolding step world_after write_done advanced
  write_follows o bytes = go (told (accepts (write_answer w.drive w.vol o (length bytes)))) (told (eqb (length bytes) 0))
    where
      go : (accepts (write_answer w.drive w.vol o (length bytes)) ≡ true) ⊎ (accepts (write_answer w.drive w.vol o (length bytes)) ≡ false)
          → (eqb (length bytes) 0 ≡ true) ⊎ (eqb (length bytes) 0 ≡ false)
          → columns_of (step w (write o bytes)) ≡ pick (accepts (answer_to w (write o bytes))) (columns_after w (columns_of w) (write o bytes)) (columns_of w)
      go (inl e) (inl q) = rw (e, q, le-ltb 0 (length bytes) (omega (arith, eqb-true (length bytes) 0 q))) (counted (w.drive.counter + 0) (omega arith))
      go (inl e) (inr q) = rw (e, q, lt-ltb 0 (length bytes) (omega (arith, eqb-false (length bytes) 0 q))) refl
      go (inr e) q = rw e refl

  begin_follows : (secret : List ℕ) → columns_of (step w (begin secret))
      ≡ pick (accepts (answer_to w (begin secret))) (columns_after w (columns_of w) (begin secret)) (columns_of w)
  unfolding step world_after begin_done begun_drive
  begin_follows secret = go (told (accepts (begin_answer w.drive w.vol secret)))
    where
      go : (accepts (begin_answer w.drive w.vol secret) ≡ true) ⊎ (accepts (begin_answer w.drive w.vol secret) ≡ false)
          → columns_of (step w (begin secret)) ≡ pick (accepts (answer_to w (begin secret))) (columns_after w (columns_of w) (begin secret)) (columns_of w)
      go (inl e) = rw e refl
      go (inr e) = rw e refl

  sweep_follows : (n : ℕ) → columns_of (step w (sweep n)) ≡ pick (accepts (answer_to w (sweep n))) (columns_after w (columns_of w) (sweep n)) (columns_of w)
  unfolding step world_after sweep_done advanced
  sweep_follows n = go (told (accepts (sweep_answer w.drive w.vol n)))
    where
      go : (accepts (sweep_answer w.drive w.vol n) ≡ true) ⊎ (accepts (sweep_answer w.drive w.vol n) ≡ false)
          → columns_of (step w (sweep n)) ≡ pick (accepts (answer_to w (sweep n))) (columns_after w (columns_of w) (sweep n)) (columns_of w)
      go (inl e) = rw e refl
      go (inr e) = rw e refl

  finish_follows : columns_of (step w finish) ≡ pick (accepts (answer_to w finish)) (columns_after w (columns_of w) finish) (columns_of w)
  unfolding step world_after finish_done finished_drive
  finish_follows = go (told (accepts (finish_answer w.drive w.vol)))
    where
      go : (accepts (finish_answer w.drive w.vol) ≡ true) ⊎ (accepts (finish_answer w.drive w.vol) ≡ false)
          → columns_of (step w finish) ≡ pick (accepts (answer_to w finish)) (columns_after w (columns_of w) finish) (columns_of w)
      go (inl e) = rw e refl
      go (inr e) = rw e refl

  discard_follows : (n first count : ℕ) → columns_of (step w (discard n first count))
      ≡ pick (accepts (answer_to w (discard n first count))) (columns_after w (columns_of w) (discard n first count)) (columns_of w)
  unfolding step world_after discard_done advanced
  discard_follows n first count = go (told (accepts (discard_answer w.drive w.vol n first count))) (told (none_held w n first count))
    where
      go : (accepts (discard_answer w.drive w.vol n first count) ≡ true) ⊎ (accepts (discard_answer w.drive w.vol n first count) ≡ false)
          → (none_held w n first count ≡ true) ⊎ (none_held w n first count ≡ false)
          → columns_of (step w (discard n first count)) ≡ pick (accepts (answer_to w (discard n first count))) (columns_after w (columns_of w) (discard n first count)) (columns_of w)
      go (inl e) (inl q) = rw (e, q) (counted (w.drive.counter + 0) (omega arith))
      go (inl e) (inr q) = rw (e, q) refl
      go (inr e) q = rw e refl

  pub follows : Sound w → (c : Call) → columns_of (step w c) ≡ pick (accepts (answer_to w c)) (columns_after w (columns_of w) c) (columns_of w)
  unfolding step
  follows x (mount any) = ap columns_of (mount-same w x any) ∙ either_way (accepts (answer_to w (mount any))) (columns_of w)
  follows x (write o bytes) = write_follows o bytes
  follows x (begin secret) = begin_follows secret
  follows x (sweep n) = sweep_follows n
  follows x finish = finish_follows
  follows x (discard n first count) = discard_follows n first count
  follows x (asks q) = either_way (accepts (answer_to w (asks q))) (columns_of w)

pub columns-start : ColumnsStart
unfolding begun fresh_drive
columns-start start =
    let d = begun_drive_lem start in
    λ i. columns (is_changing (d i).state) (d i).epoch (d i).counter start.secret

pub columns_follow : ColumnsFollow
columns_follow start calls c = follows (history start calls) (sound start calls) c

pub begin-leaves-all : BeginLeavesAll
unfolding begun_drive
begin-leaves-all start calls secret e =
    let w = history start calls in
    let x = sound start calls in
    let n_is : (step w (begin secret)).drive.n ≡ w.drive.n = ap (λ (d : Drive). d.n) (begin-leaves w x secret e) in
    ap (λ (k : ℕ). many k (is_left (step w (begin secret)))) n_is
    ∙ many-full w.drive.n (is_left (step w (begin secret))) (λ i l. ap not (begin_moves_none w x secret e i l))
