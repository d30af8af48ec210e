-- A steady drive with something else for its old secret: each test, each answer and each store is the same.
use mathlib.Core.Path.{◌≡◌, refl, ap, ap₂, sym, ◌∙◌}
use mathlib.Core.Bool.{true, false}
use mathlib.Core.Logic.{◌⊎◌, inl, inr}
use mathlib.Core.List.{List}
use Prim.Native.Nat.{ℕ, zero, suc, ◌+◌, ◌<◌, ◌≤◌}
use native.Mathlib.Omega.{arith}
use lib.Bits.{bit_and}
use lib.Dec.{eqb}
use lib.ListN.{length}
use borrow.Author.Tests.{eq-eqb, ne_eqb, ltb-true}
use Rattle.base.specs.Pick.{pick}
use Rattle.base.proofs.PickLaws.{clash, both_left, both_right}
use Rattle.answers.specs.Answer as A
use Rattle.answers.specs.Numbers.{accepts}
use Rattle.answers.specs.Stages.{and_then}
use Rattle.answers.proofs.StageLaws.{both_stages, accepted_is, passed, spared}
use Rattle.layout.specs.Shaped.{Shaped}
use Rattle.records.specs.declared.Record.{Record}
use Rattle.records.specs.declared.Way.{Way}
use Rattle.records.specs.declared.Way.TheVariants.{Idle, Add, Rekey, Clear}
use Rattle.records.specs.Journal.{bit}
use Rattle.records.specs.Rule.{enciphered, rekeys}
use Rattle.records.proofs.BitLaws.{bit-empty}
use Rattle.records.proofs.RuleLaws.{formed-epoch}
use Rattle.nodes.specs.Nodes.{node_in}
use Rattle.records.specs.Record.{record_of}
use Rattle.tree.proofs.PathLaws.{path_belongs}
use Rattle.drive.specs.declared.Drive.{Drive}
use Rattle.drive.specs.declared.State.{State}
use Rattle.drive.specs.declared.State.TheVariants.{Steady, Changing}
use Rattle.drive.specs.Drive.{shape_of, gauge_of, is_changing, counter_top}
use Rattle.drive.specs.Head.{check_for, front_in, head_of}
use Rattle.drive.specs.Opening.{in_form, measure_of, head_stands, opening_of}
use Rattle.drive.proofs.OpeningLaws.{opening_lent}
use Rattle.nuggets.specs.declared.Nugget.{Nugget}
use Rattle.nuggets.specs.Nugget.{secret_for, nugget_of, contents_in, contents_of}
use Rattle.nuggets.specs.Tests.{flakes_tested, path_for, nugget_read}
use Rattle.nuggets.specs.Touched.{fits_in}
use Rattle.changes.specs.Laid.{written}
use Rattle.changes.specs.Change.{idles, nugget_change, tested_to, pads_for, marked_to, tended_to, worked, advanced, settled}
use Rattle.changes.specs.Write.{write_way, write_answer, writes, new_contents, write_work, written_drive}
use Rattle.changes.proofs.Each.{each_map, Below, chosen, each_to}
use Rattle.changes.proofs.SpanLaws.{tested_each}
use Rattle.changes.proofs.SweepLaws.{laid-alike}
use Rattle.changes.proofs.Exact.{yes_same, no_same, advanced-old}
use Rattle.assurances.specs.Unseen.{with_old}

-- what a steady state makes of the old secret
check_any : (s : State) → is_changing s ≡ false → (a b salt : List ℕ) (epoch : ℕ) → check_for s a salt epoch ≡ check_for s b salt epoch
check_any Steady q a b salt epoch = refl
check_any (Changing left) q a b salt epoch = absurd (clash refl q)

-- a way that enciphers isn't idle
busy : (way : Way) (r : Record) (f : ℕ) → bit (enciphered way r) f ≡ true → idles way ≡ false
unfolding enciphered
busy Idle r f e = absurd (clash e (bit-empty f))
busy (Add t) r f e = refl
busy (Rekey t) r f e = refl
busy (Clear m) r f e = refl

module _ (d : Drive) (any v : List ℕ) (steady : is_changing d.state ≡ false) where
  abbrev e : Drive
  e = with_old d any

  head-same : head_of e ≡ head_of d
  unfolding head_of front_in
  head-same = rw (check_any d.state steady any d.old d.salt d.epoch) refl

  pub opens : opening_of (with_old d any) v ≡ opening_of d v
  unfolding opening_of measure_of in_form head_stands
  opens = rw head-same refl

  -- a nugget whose path passes is under the present secret
  nugget-same : Shaped (shape_of d) v → (n : ℕ) → n < d.n → accepts (path_for d v n) ≡ true → nugget_of e v n ≡ nugget_of d v n
  unfolding secret_for
  nugget-same l n h p =
      let b = path_belongs (shape_of d) (gauge_of d) v n l h (accepted_is (path_for d v n) p) in
      let q = eq-eqb (record_of (shape_of d) v n).epoch d.epoch (go (formed-epoch d.p (gauge_of d) (record_of (shape_of d) v n) b.well_formed_lem)) in
      rw q refl
    where
      go : ((record_of (shape_of d) v n).epoch ≡ d.epoch) ⊎ ((is_changing d.state ≡ true) × ((record_of (shape_of d) v n).epoch + 1 ≡ d.epoch)) → (record_of (shape_of d) v n).epoch ≡ d.epoch
      go (inl z) = z
      go (inr z) = absurd (clash z.0 steady)

  pub tests : Shaped (shape_of d) v → (n t : ℕ) → n < d.n → nugget_read (with_old d any) v n t ≡ nugget_read d v n t
  unfolding nugget_read
  tests l n t h = yes_same (accepts (path_for d v n)) _ (λ p. ap (λ (g : Nugget). flakes_tested (shape_of d) v g (bit_and (record_of (shape_of d) v n).held t)) (nugget-same l n h p))

  pub bytes : Shaped (shape_of d) v → (n f : ℕ) → n < d.n → f < d.p → accepts (path_for d v n) ≡ true → contents_of (with_old d any) v n f ≡ contents_of d v n f
  bytes l n f h k p = ap (λ (g : Nugget). contents_in (shape_of d) v g f) (nugget-same l n h p)

  change_same : Shaped (shape_of d) v → (n : ℕ) (way : Way) → n < d.n → nugget_change e v n way ≡ nugget_change d v n way
  unfolding nugget_change and_then
  change_same l n way h =
      no_same (idles way) _
      (λ busy. yes_same (accepts (path_for d v n)) _
      (λ p. ap (λ (g : Nugget). pick (rekeys way) (flakes_tested (shape_of d) v g (record_of (shape_of d) v n).held) A.Accepted) (nugget-same l n h p)))

  tested_same : Shaped (shape_of d) v → (way : ℕ → Way) (n : ℕ) → n ≤ d.n → tested_to e v way n ≡ tested_to d v way n
  unfolding tested_to
  tested_same l way zero h = refl
  tested_same l way (suc n) h = ap₂ and_then (tested_same l way n (omega arith)) (change_same l n (way n) (omega arith))

  pub write_same : (o len : ℕ) → write_answer (with_old d any) v o len ≡ write_answer d v o len
  unfolding write_answer and_then
  write_same o len =
      rw opens
      (yes_same (accepts (opening_of d v)) _
      (λ opened. yes_same (fits_in (shape_of d) o len) _
      (λ fits. no_same (eqb len 0) _
      (λ some. no_same (eqb d.counter counter_top) _ (λ low. tested_same (opening_lent d v opened) (write_way d v o len) d.n (omega arith))))))

  module _ (o : ℕ) (given : List ℕ) (taken : writes (write_answer d v o (length given)) given ≡ true) where
    accepted : accepts (write_answer d v o (length given)) ≡ true
    accepted = both_left (accepts (write_answer d v o (length given))) _ taken

    lent : Shaped (shape_of d) v
    unfolding write_answer
    lent = opening_lent d v (both_stages (opening_of d v) _ accepted).0

    abbrev ways : ℕ → Way
    ways = write_way d v o (length given)

    all_tested : accepts (tested_to d v ways d.n) ≡ true
    unfolding write_answer
    all_tested =
        let some : 0 < length given = ltb-true 0 (length given) (both_right (accepts (write_answer d v o (length given))) _ taken) in
        let t₁ = both_stages (opening_of d v) _ accepted in
        let t₂ = passed (fits_in (shape_of d) o (length given)) _ A.PastEnd refl t₁.1 in
        let t₃ : accepts (pick (eqb d.counter counter_top) A.CounterTop (tested_to d v ways d.n)) ≡ true = rw (ne_eqb (length given) 0 (λ z. omega (arith, z, some))) at t₂.1 in
        (spared (eqb d.counter counter_top) A.CounterTop _ refl t₃).1

    new_same : (n f : ℕ) → n < d.n → f < d.p → chosen ways (record_of (shape_of d) v) n f ≡ true → new_contents e v o given n f ≡ new_contents d v o given n f
    unfolding nugget_change
    new_same n f h l on =
        let passed_on = rw (busy (ways n) (record_of (shape_of d) v n) f on) at (tested_each d v ways d.n n h all_tested) in
        ap (λ (was : List ℕ). written (shape_of d) o given n f was) (bytes lent n f h l (both_stages (path_for d v n) _ passed_on).0)

    work_same : write_work e v o given ≡ write_work d v o given
    unfolding worked
    work_same =
        ap (λ (z : List ℕ). tended_to (shape_of d) ways d.n (marked_to (shape_of d) d.epoch ways v d.n z))
        (laid-alike (shape_of d) d.salt (new_contents e v o given) (new_contents d v o given) (pads_for d v ways) v
        (each_map (Below (chosen ways (record_of (shape_of d) v)) d.n d.p) (λ x. new_contents e v o given x.nugget x.flake ≡ new_contents d v o given x.nugget x.flake) (pads_for d v ways)
        (λ x b. new_same x.nugget x.flake b.under b.few b.holds)
        (each_to d.p ways (record_of (shape_of d) v) d.present d.n)))

    pub written_same : written_drive (with_old d any) v o given ≡ written_drive d v o given
    unfolding advanced
    written_same =
        λ i.
        record {
          n = d.n;
          p = d.p;
          f = d.f;
          version = d.version;
          cipher = d.cipher;
          salt = d.salt;
          state = d.state;
          epoch = d.epoch;
          counter = d.counter + 1;
          node = node_in (shape_of d) (work_same i) 1;
          present = d.present;
          old = (advanced-old e (write_work e v o given) steady ∙ sym (advanced-old d (write_work d v o given) steady)) i;
        }

    pub stored_same : settled (written_drive (with_old d any) v o given) (write_work (with_old d any) v o given) ≡ settled (written_drive d v o given) (write_work d v o given)
    stored_same = ap₂ settled written_same work_same
