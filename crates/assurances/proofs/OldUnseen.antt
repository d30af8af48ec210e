-- Two steady drives that differ in the old secret alone: call by call.
use mathlib.Core.Path.{◌≡◌, refl, sym, ap, ap₂, ◌∙◌}
use mathlib.Core.Bool.{Bool, true, false, not}
use mathlib.Core.Logic.{◌⊎◌, inl, inr}
use mathlib.Core.List.{List, []}
use Prim.Native.Nat.{ℕ, ◌+◌, ◌<◌}
use lib.ListN.{length}
use Rattle.base.specs.Pick.{pick, both}
use Rattle.base.proofs.PickLaws.{told, clash, both_left}
use Rattle.answers.specs.Numbers.{accepts}
use Rattle.answers.specs.Answer as A
use Rattle.answers.proofs.StageLaws.{both_stages, passed}
use Rattle.records.specs.Listing.{Entry}
use Rattle.drive.specs.declared.Drive.{Drive}
use Rattle.drive.specs.Drive.{is_changing}
use Rattle.drive.specs.Opening.{in_form, measure_of, opening_of}
use Rattle.reports.specs.Report.{report_answer, report_of}
use Rattle.reports.specs.Stored.{is_flake, stored_answer, stored_flake}
use Rattle.changes.specs.Laid.{over}
use Rattle.changes.specs.Write.{write_answer, writes, written_drive, write_done, write_volume, write_pads}
use Rattle.changes.specs.Rekey.{begin_tests, begin_answer, begun_drive, begin_done, begin_volume, sweep_answer, sweep_done, sweep_volume, sweep_pads, finish_tests, finish_answer, finished_drive, finish_done, finish_volume}
use Rattle.drive.specs.Drive.{shape_of}
use Rattle.nodes.specs.Nodes.{node_in}
use Rattle.changes.specs.Change.{marked_to, tended_to, worked, advanced, settled}
use Rattle.changes.specs.Discard.{clear_tests, clears_none, discard_answer, clears, discard_ways, discard_work, discarded_drive, discard_done, discard_volume, discards_at}
use Rattle.changes.proofs.DiscardLaws.{discard-told, discard_lays}
use Rattle.changes.proofs.Exact.{yes_same, advanced-old}
use Rattle.history.specs.World.{World, Call, mount, write, begin, sweep, finish, discard, asks, read, report, stored}
use Rattle.history.specs.Step.{answer_to, world_after, contents_after, contents_without, mounted, step, changes_by}
use Rattle.assurances.specs.Unseen.{with_old, swapped, AlikeButOld, OldUnseen, OldUnread}
use Rattle.assurances.proofs.SameReads.{read_alike, buffer_alike}
use Rattle.assurances.proofs.Steady.{opens, tests, bytes, write_same, written_same, stored_same}

-- what is left where the drive changes in one of two ways, or comes back as given
left-alike : (w : World) (any : List ℕ) (b : Bool) (new : Drive) (vol : List ℕ) (pads : List Entry) (secret old : List ℕ) (after : ℕ → ℕ)
    → AlikeButOld (world_after (swapped w any) (pick b new (with_old w.drive any)) vol pads secret old after) (world_after w (pick b new w.drive) vol pads secret old after)
    × (b ≡ true → world_after (swapped w any) (pick b new (with_old w.drive any)) vol pads secret old after ≡ world_after w (pick b new w.drive) vol pads secret old after)
unfolding world_after
left-alike w any true new vol pads secret old after = (refl, λ e. refl)
left-alike w any false new vol pads secret old after = (refl, λ e. absurd (clash e refl))

module _ (w : World) (any : List ℕ) (steady : is_changing w.drive.state ≡ false) where
  abbrev d : Drive
  d = w.drive

  abbrev v : List ℕ
  v = w.vol

  abbrev e : Drive
  e = with_old w.drive any

  abbrev u : World
  u = swapped w any

  abbrev Same : Call → Type 0
  Same c = (answer_to u c ≡ answer_to w c) × AlikeButOld (step u c) (step w c) × (changes_by w c ≡ true → step u c ≡ step w c)

  begin_answer_lem : (secret : List ℕ) → begin_answer e v secret ≡ begin_answer d v secret
  unfolding begin_answer begin_tests
  begin_answer_lem secret = rw (opens d any v steady) refl

  sweep_answer_lem : (n : ℕ) → sweep_answer e v n ≡ sweep_answer d v n
  unfolding sweep_answer
  sweep_answer_lem n = rw (opens d any v steady, steady) refl

  finish_answer_lem : finish_answer e v ≡ finish_answer d v
  unfolding finish_answer finish_tests
  finish_answer_lem = rw (opens d any v steady) refl

  -- each step by the answer to the other drive
  write_steps : (o : ℕ) (given : List ℕ) → step u (write o given)
      ≡ world_after u (pick (writes (write_answer d v o (length given)) given) (written_drive d v o given) e) (write_volume d v o given) (write_pads d v o given) w.secret w.old (contents_after w o given)
  unfolding step write_done write_volume write_pads
  write_steps o given =
      let same = write_same d any v steady o (length given) in
      let drives : (write_done e v o given).drive ≡ pick (writes (write_answer d v o (length given)) given) (written_drive d v o given) e =
      rw same (yes_same (writes (write_answer d v o (length given)) given) e (λ taken. written_same d any v steady o given taken)) in
      let vols : write_volume e v o given ≡ write_volume d v o given =
      rw same (yes_same (writes (write_answer d v o (length given)) given) v (λ taken. stored_same d any v steady o given taken)) in
      let pads : write_pads e v o given ≡ write_pads d v o given = rw same refl in
      λ i. world_after u (drives i) (vols i) (pads i) w.secret w.old (λ a. pick (accepts (same i)) (over o given a (w.contents a)) (w.contents a))

  write_unseen : (o : ℕ) (given : List ℕ) → Same (write o given)
  unfolding step write_done
  write_unseen o given =
      let l = left-alike w any (writes (write_answer d v o (length given)) given) (written_drive d v o given) (write_volume d v o given) (write_pads d v o given) w.secret w.old (contents_after w o given) in
      (write_same d any v steady o (length given), ap (λ (z : World). swapped z (step w (write o given)).drive.old) (write_steps o given) ∙ l.0, λ q. write_steps o given ∙ l.1 q)

  begin_unseen : (secret : List ℕ) → Same (begin secret)
  unfolding step begin_done begin_volume begun_drive
  begin_unseen secret =
      let same = begin_answer_lem secret in
      let a = accepts (begin_answer d v secret) in
      let l = left-alike w any a (begun_drive d secret) (begin_volume d v secret) [] (pick a secret w.secret) (pick a w.secret w.old) w.contents in
      (same, rw same l.0, λ q. rw same (l.1 q))

  -- a steady drive isn't swept
  sweep-refused : (n : ℕ) → accepts (sweep_answer d v n) ≡ false
  unfolding sweep_answer
  sweep-refused n = go (told (accepts (sweep_answer d v n)))
    where
      go : (accepts (sweep_answer d v n) ≡ true) ⊎ (accepts (sweep_answer d v n) ≡ false) → accepts (sweep_answer d v n) ≡ false
      go (inl q) = absurd (clash (passed (is_changing d.state) _ A.State refl (both_stages (opening_of d v) _ q).1).0 steady)
      go (inr q) = q

  sweep_unseen : (n : ℕ) → Same (sweep n)
  unfolding step sweep_done sweep_volume sweep_pads
  sweep_unseen n =
      let same = sweep_answer_lem n in
      let off = sweep-refused n in
      (same, rw (same, off) (left-alike w any false d v [] w.secret w.old w.contents).0, λ q. absurd (clash q off))

  finish_unseen : Same finish
  unfolding step finish_done finish_volume finished_drive
  finish_unseen =
      let same = finish_answer_lem in
      let l = left-alike w any (accepts (finish_answer d v)) (finished_drive d) (finish_volume d v) [] w.secret w.old w.contents in
      (same, rw same l.0, λ q. rw same (l.1 q))

  module _ (n first count : ℕ) where
    discard_answer_lem : discard_answer e v n first count ≡ discard_answer d v n first count
    unfolding discard_answer clear_tests
    discard_answer_lem = rw (opens d any v steady) refl

    -- nothing is enciphered, so no secret is asked for
    freed_same : n < d.n → discard_work e v n first count ≡ discard_work d v n first count
    unfolding worked
    freed_same h =
        ap (λ (z : List ℕ). tended_to (shape_of d) (discard_ways n first count) d.n (marked_to (shape_of d) d.epoch (discard_ways n first count) v d.n z))
        (sym (discard_lays e v n first count h) ∙ discard_lays d v n first count h)

    freed_drive : n < d.n → discarded_drive e v n first count ≡ discarded_drive d v n first count
    unfolding advanced
    freed_drive h =
        λ i.
        record {
          n = d.n;
          p = d.p;
          f = d.f;
          version = d.version;
          cipher = d.cipher;
          salt = d.salt;
          state = d.state;
          epoch = d.epoch;
          counter = d.counter + 1;
          node = node_in (shape_of d) (freed_same h i) 1;
          present = d.present;
          old = (advanced-old e (discard_work e v n first count) steady ∙ sym (advanced-old d (discard_work d v n first count) steady)) i;
        }

    inside : clears d v n first count ≡ true → n < d.n
    inside q = (discard-told d v n first count (both_left (accepts (discard_answer d v n first count)) (not (clears_none d v n first count)) q)).inside

    discard_steps : step u (discard n first count)
        ≡ world_after u (pick (clears d v n first count) (discarded_drive d v n first count) e) (discard_volume d v n first count) [] w.secret w.old (contents_without w n first count)
    unfolding step discard_done discard_volume
    discard_steps =
        let same = discard_answer_lem in
        let drives : (discard_done e v n first count).drive ≡ pick (clears d v n first count) (discarded_drive d v n first count) e =
        rw same (yes_same (clears d v n first count) e (λ q. freed_drive (inside q))) in
        let vols : discard_volume e v n first count ≡ discard_volume d v n first count =
        rw same (yes_same (clears d v n first count) v (λ q. ap₂ settled (freed_drive (inside q)) (freed_same (inside q)))) in
        λ i. world_after u (drives i) (vols i) [] w.secret w.old (λ a. pick (both (accepts (same i)) (discards_at (shape_of d) n first count a)) 0 (w.contents a))

    discard_unseen : Same (discard n first count)
    unfolding step discard_done
    discard_unseen =
        let l = left-alike w any (clears d v n first count) (discarded_drive d v n first count) (discard_volume d v n first count) [] w.secret w.old (contents_without w n first count) in
        (discard_answer_lem, ap (λ (z : World). swapped z (step w (discard n first count)).drive.old) discard_steps ∙ l.0, λ q. discard_steps ∙ l.1 q)

  unseen : (c : Call) → Same c
  unfolding step mounted report_answer stored_answer measure_of in_form is_flake
  unseen (mount brought) = (refl, refl, λ q. refl)
  unseen (write o given) = write_unseen o given
  unseen (begin secret) = begin_unseen secret
  unseen (sweep n) = sweep_unseen n
  unseen finish = finish_unseen
  unseen (discard n first count) = discard_unseen n first count
  unseen (asks (read o buffer)) = (
    read_alike d any v v (opens d any v steady) (tests d any v steady) (bytes d any v steady) o (length buffer),
    refl,
    λ q. absurd (clash q refl),
  )
  unseen (asks report) = (rw (opens d any v steady) refl, refl, λ q. absurd (clash q refl))
  unseen (asks (stored n f)) = (refl, refl, λ q. absurd (clash q refl))

pub old_unseen : OldUnseen
old_unseen w any c steady = unseen w any steady c

pub old_unread : OldUnread
unfolding report_of report_answer stored_flake stored_answer measure_of in_form is_flake
old_unread d v any steady = (
  λ o buffer. buffer_alike d any v v (opens d any v steady) (tests d any v steady) (bytes d any v steady) o buffer,
  rw (opens d any v steady) refl,
  λ n f. refl,
)
