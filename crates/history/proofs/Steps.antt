-- A format begins soundly, and every call keeps it so.
use mathlib.Core.Path.{◌≡◌, refl, ap, ◌∙◌}
use mathlib.Core.Bool.{Bool, true, false}
use mathlib.Core.Logic.{◌⊎◌, inl, inr}
use mathlib.Core.List.{List, [], ◌∷◌}
use Prim.Native.Nat.{ℕ, ◌+◌, ◌<◌}
use native.Mathlib.Omega.{arith}
use lib.Dec.{leb, ltb}
use lib.ListN.{length}
use borrow.Author.Tests.{leb-true, ltb-true, ltb-false, le-ltb}
use Rattle.base.specs.Pick.{pick, both}
use Rattle.base.proofs.PickLaws.{yes, told, clash, both_left, both_right}
use Rattle.base.proofs.TabLaws.{tab_const}
use Rattle.answers.specs.Answer as A
use Rattle.answers.specs.Numbers.{accepts}
use Rattle.layout.specs.declared.Shape.{Shape}
use Rattle.layout.specs.Shape.{in_limits}
use Rattle.records.specs.declared.Record.{Record}
use Rattle.records.specs.Journal.{bit}
use Rattle.records.proofs.BitLaws.{bit-empty}
use Rattle.tree.proofs.WholeLaws.{whole-good, whole-formed}
use Rattle.drive.specs.declared.Drive.{Drive}
use Rattle.drive.specs.declared.Done.{Done}
use Rattle.drive.specs.declared.State.{State}
use Rattle.drive.specs.declared.State.TheVariants.{Steady, Changing}
use Rattle.drive.specs.Drive.{shape_of, gauge_of, is_changing, kept_old}
use Rattle.opening.specs.Format.{fresh_record, planted, fresh_drive, fresh_volume, format_done, format_volume}
use Rattle.opening.specs.Mount.{mount_done}
use Rattle.opening.proofs.FormatLaws.{format_lent}
use Rattle.opening.proofs.FreshLaws.{planted-fresh, fresh_opens, fresh-whole}
use Rattle.opening.proofs.Reopens.{Handed, length-head, mounts-back}
use Rattle.changes.specs.Laid.{over}
use Rattle.changes.specs.Change.{settled}
use Rattle.changes.specs.Write.{writes, write_answer, write_done, write_volume, write_pads}
use Rattle.changes.specs.Rekey.{begin_answer, begin_done, begin_volume, sweep_answer, sweep_done, sweep_volume, sweep_pads, finish_answer, finish_done, finish_volume}
use Rattle.changes.proofs.AnswerLaws.{begin-told, sweep-told, finish-told, write-told}
use Rattle.changes.proofs.SettleLaws.{settled_record}
use Rattle.ledger.specs.Invariant.{Inv}
use Rattle.ledger.proofs.CalmLaws.{starts}
use Rattle.ledger.proofs.OnwardLaws.{onward-same}
use Rattle.history.specs.World.{World, Call, mount, write, begin, sweep, finish, discard, asks}
use Rattle.history.specs.Step.{old_for, contents_after, contents_without, mounted, step}
use Rattle.history.specs.History.{Start, begun, run, history}
use Rattle.history.specs.Demands.{plain_in}
use Rattle.history.proofs.Quiet.{Untouched, whole_quiet}
use Rattle.history.proofs.View.{kit_of, view_of, ledger_of}
use Rattle.history.proofs.Sound.{Sound, Keeps, plain-same, same_keeps, begun_keeps, finished_keeps}
use Rattle.history.proofs.Ways.{written_keeps, swept_keeps}
use Rattle.history.proofs.Freed.{discarded_keeps, idle-plain}
use Rattle.changes.specs.Discard.{clears, discard_done, discard_volume}
use Rattle.records.specs.Record.{record_of}

-- a fresh drive and volume
module _ (s : Shape) (salt secret : List ℕ) (outside : ℕ) (salted : length salt ≡ 16) (limited : in_limits s ≡ true) where
  abbrev d : Drive
  d = fresh_drive s salt secret outside

  abbrev v : List ℕ
  v = fresh_volume s salt secret outside

  fresh_record_lem : (n : ℕ) → n < s.n → record_of (shape_of d) v n ≡ fresh_record
  unfolding fresh_volume fresh_drive settled
  fresh_record_lem n h = settled_record s d (planted s) (length-head d salted) n ∙ planted-fresh s limited n h

  fresh-untouched : Untouched d v
  unfolding fresh_drive
  fresh-untouched =
      let whole = fresh-whole s salt secret outside salted limited in
      record {
        opens = fresh_opens s salt secret outside salted limited;
        good = whole-good s (gauge_of d) v whole;
        well = whole-formed s (gauge_of d) v whole;
        tags = λ n f h l on. absurd (clash on (ap (λ (r : Record). bit r.held f) (fresh_record_lem n h) ∙ bit-empty f));
      }

  fresh_inv : Inv (kit_of d) (view_of d v [] 0 (λ a. 0))
  unfolding fresh_drive plain_in
  fresh_inv =
      starts (kit_of d) (view_of d v [] 0 (λ a. 0))
      (record { empty = fresh_record_lem; zeros = λ n f h l. tab_const s.f 0; unlisted = refl; unretired = refl })

-- "Begin with one accepted format"
pub start_sound : (x : Start) → Sound (begun x)
unfolding begun format_done format_volume fresh_drive
start_sound x =
    let (lent, top) = format_lent x.shape x.outside x.given (ap accepts x.accepted) in
    rw x.accepted
    (record {
      untouched = fresh-untouched x.shape x.salt x.secret x.outside x.salted lent.limited;
      handed = record { epoch_lt = omega arith; counter_lt = omega (arith, x.low, top); salt_long_lem = x.salted; kept = refl };
      present = refl;
      counter = refl;
      inv = fresh_inv x.shape x.salt x.secret x.outside x.salted lent.limited;
    })

-- what it hands out: a fresh drive, and each nugget with nothing in it
pub begun_drive_lem : (x : Start) → (begun x).drive ≡ fresh_drive x.shape x.salt x.secret x.outside
unfolding begun format_done
begun_drive_lem x = rw x.accepted refl

pub begun_record : (x : Start) (n : ℕ) → n < x.shape.n → record_of (shape_of (begun x).drive) (begun x).vol n ≡ fresh_record
unfolding begun format_done format_volume
begun_record x n h =
    let (lent, top) = format_lent x.shape x.outside x.given (ap accepts x.accepted) in
    rw x.accepted (fresh_record_lem x.shape x.salt x.secret x.outside x.salted lent.limited n h)

pub kept_any : (s : State) (old any : List ℕ) → kept_old s (pick (is_changing s) old any) ≡ kept_old s old
kept_any Steady old any = refl
kept_any (Changing epoch) old any = refl

-- what is laid over by no bytes stays
none_over : (accepted : Bool) (o : ℕ) (bytes : List ℕ) (a was : ℕ) → both accepted (ltb 0 (length bytes)) ≡ false
    → pick accepted (over o bytes a was) was ≡ was
none_over false o bytes a was e = refl
none_over true o bytes a was e = go (told (leb o a))
  where
    go : (leb o a ≡ true) ⊎ (leb o a ≡ false) → over o bytes a was ≡ was
    go (inl q) = rw (q, le-ltb a (o + length bytes) (omega (arith, ltb-false 0 (length bytes) e, leb-true o a q))) refl
    go (inr q) = rw q refl

module _ (w : World) (x : Sound w) where
  -- a mount with the right secrets and counter gives the very drive
  pub mount-back : (any : List ℕ) → mount_done w.vol w.secret (old_for w any) w.outside ≡ record { answer = A.Accepted; drive = w.drive }
  mount-back any =
      let handed : Handed w.drive (old_for w any) = record {
        epoch_lt = x.handed.epoch_lt;
        counter_lt = x.handed.counter_lt;
        salt_long_lem = x.handed.salt_long_lem;
        kept = kept_any w.drive.state w.old any ∙ x.handed.kept;
      } in
      rw (← x.present, ← x.counter)
      (mounts-back w.drive w.vol (old_for w any) handed x.untouched.opens (whole_quiet w.drive w.vol x.untouched))

  pub mount-same : (any : List ℕ) → step w (mount any) ≡ w
  unfolding step mounted
  mount-same any = ap (λ (done : Done). mounted w done.drive) (mount-back any)

  write_keeps : (o : ℕ) (bytes : List ℕ) → Keeps w (step w (write o bytes))
  unfolding step write_done write_volume write_pads
  write_keeps o bytes = go (told (writes (write_answer w.drive w.vol o (length bytes)) bytes))
    where
      go : (writes (write_answer w.drive w.vol o (length bytes)) bytes ≡ true) ⊎ (writes (write_answer w.drive w.vol o (length bytes)) bytes ≡ false)
          → Keeps w (step w (write o bytes))
      go (inl e) =
          let accepted = both_left (accepts (write_answer w.drive w.vol o (length bytes))) _ e in
          let some : 0 < length bytes = ltb-true 0 (length bytes) (both_right (accepts (write_answer w.drive w.vol o (length bytes))) _ e) in
          rw e (written_keeps w x o bytes (write-told w.drive w.vol o (length bytes) some accepted) (contents_after w o bytes) (λ a. yes _ accepted refl))
      go (inr e) =
          rw e
          (same_keeps w x (contents_after w o bytes) (λ n f h l. plain-same (shape_of w.drive) (contents_after w o bytes) w.contents
          (λ a. none_over (accepts (write_answer w.drive w.vol o (length bytes))) o bytes a (w.contents a) e) n f))

  begin_keeps : (secret : List ℕ) → Keeps w (step w (begin secret))
  unfolding step begin_done begin_volume
  begin_keeps secret = go (told (accepts (begin_answer w.drive w.vol secret)))
    where
      go : (accepts (begin_answer w.drive w.vol secret) ≡ true) ⊎ (accepts (begin_answer w.drive w.vol secret) ≡ false) → Keeps w (step w (begin secret))
      go (inl e) = rw e (begun_keeps w x secret (begin-told w.drive w.vol secret e))
      go (inr e) = rw e (same_keeps w x w.contents (λ n f a b. refl))

  sweep_keeps : (n : ℕ) → Keeps w (step w (sweep n))
  unfolding step sweep_done sweep_volume sweep_pads
  sweep_keeps n = go (told (accepts (sweep_answer w.drive w.vol n)))
    where
      go : (accepts (sweep_answer w.drive w.vol n) ≡ true) ⊎ (accepts (sweep_answer w.drive w.vol n) ≡ false) → Keeps w (step w (sweep n))
      go (inl e) = rw e (swept_keeps w x n (sweep-told w.drive w.vol n e))
      go (inr e) = rw e (same_keeps w x w.contents (λ n f a b. refl))

  finish_keeps : Keeps w (step w finish)
  unfolding step finish_done finish_volume
  finish_keeps = go (told (accepts (finish_answer w.drive w.vol)))
    where
      go : (accepts (finish_answer w.drive w.vol) ≡ true) ⊎ (accepts (finish_answer w.drive w.vol) ≡ false) → Keeps w (step w finish)
      go (inl e) = rw e (finished_keeps w x (finish-told w.drive w.vol e))
      go (inr e) = rw e (same_keeps w x w.contents (λ n f a b. refl))

  discard_keeps : (n first count : ℕ) → Keeps w (step w (discard n first count))
  unfolding step discard_done discard_volume
  discard_keeps n first count = go (told (clears w.drive w.vol n first count))
    where
      go : (clears w.drive w.vol n first count ≡ true) ⊎ (clears w.drive w.vol n first count ≡ false) → Keeps w (step w (discard n first count))
      go (inl e) = rw e (discarded_keeps w x n first count e)
      go (inr e) = rw e (same_keeps w x (contents_without w n first count) (idle-plain w x n first count e))

unchanged : (w : World) → Sound w → Keeps w w
unchanged w x = record { sound = x; onward = onward-same (kit_of w.drive) (ledger_of w); rests = λ n f h l gone. record { stored = refl; tag = refl } }

pub step_keeps : (w : World) (c : Call) → Sound w → Keeps w (step w c)
unfolding step
step_keeps w (mount any) x = rw (mount-same w x any) (unchanged w x)
step_keeps w (write o bytes) x = write_keeps w x o bytes
step_keeps w (begin secret) x = begin_keeps w x secret
step_keeps w (sweep n) x = sweep_keeps w x n
step_keeps w finish x = finish_keeps w x
step_keeps w (discard n first count) x = discard_keeps w x n first count
step_keeps w (asks q) x = unchanged w x

pub step_sound : (w : World) (c : Call) → Sound w → Sound (step w c)
step_sound w c x = (step_keeps w c x).sound

pub run_sound : (w : World) (calls : List Call) → Sound w → Sound (run w calls)
unfolding run
run_sound w [] x = x
run_sound w (c ∷ calls) x = run_sound (step w c) calls (step_sound w c x)

-- every history is sound
pub sound : (x : Start) (calls : List Call) → Sound (history x calls)
sound x calls = run_sound (begun x) calls (start_sound x)
