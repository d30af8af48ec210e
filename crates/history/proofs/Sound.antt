-- What stays true through every history, what each call keeps, and the calls that leave the nuggets alone.
use mathlib.Core.Path.{◌≡◌, refl, sym, ap}
use mathlib.Core.Bool.{true, false}
use mathlib.Core.List.{List, [], ◌++◌, append-nil}
use Prim.Native.Nat.{ℕ, ◌+◌, ◌^◌, ◌<◌, ◌≤◌}
use native.Mathlib.Omega.{arith}
use borrow.Author.Tests.{eqb-true}
use Rattle.base.proofs.TabLaws.{tab_ext}
use Rattle.layout.specs.declared.Shape.{Shape}
use Rattle.layout.specs.Spots.{offset_at}
use Rattle.records.specs.declared.Record.{Record}
use Rattle.records.specs.Journal.{bit}
use Rattle.drive.specs.declared.Drive.{Drive}
use Rattle.drive.specs.declared.State.{State}
use Rattle.drive.specs.declared.State.TheVariants.{Steady, Changing}
use Rattle.drive.specs.Drive.{shape_of, headed, zeros, counter_top}
use Rattle.drive.specs.Opening.{state_fits}
use Rattle.nuggets.specs.Nugget.{secret_for}
use Rattle.opening.proofs.Reopens.{Handed}
use Rattle.reports.specs.Counts.{is_moved}
use Rattle.changes.specs.Change.{settled}
use Rattle.changes.specs.Rekey.{begun_drive, finished_drive}
use Rattle.changes.proofs.AnswerLaws.{Begins, Finishes}
use Rattle.changes.proofs.PutLaws.{Same}
use Rattle.ledger.specs.Totals.{risen}
use Rattle.ledger.specs.Ledger.{Ledger, secret_at}
use Rattle.ledger.specs.Invariant.{Inv}
use Rattle.ledger.specs.Step.{Kept, Calm, HeadBegun, HeadFinished}
use Rattle.ledger.specs.Onward.{Onward}
use Rattle.ledger.proofs.TotalLaws.{risen-none}
use Rattle.ledger.proofs.CalmLaws.{calms, begin_calm, finish_calm}
use Rattle.ledger.proofs.OnwardLaws.{onward-kept}
use Rattle.history.specs.World.{World}
use Rattle.history.specs.Step.{world_after}
use Rattle.history.specs.Demands.{plain_in}
use Rattle.history.proofs.Counts.{many-all}
use Rattle.history.proofs.Quiet.{Untouched}
use Rattle.history.proofs.View.{kit_of, view_of, ledger_of}
use Rattle.history.proofs.Heads.{headed_record, headed-same, headed-untouched, begin-fits, finish-fits}
use Rattle.records.specs.Record.{record_of}

pub record Sound (w : World) : Type 0 where
  -- nothing is altered
  pub untouched : Untouched w.drive w.vol
  -- the drive is one that the calls hand out, under the secrets and the counter that the user keeps
  pub handed : Handed w.drive w.old
  pub present : w.drive.present ≡ w.secret
  pub counter : w.drive.counter ≡ w.outside
  -- the ledger's invariant
  pub inv : Inv (kit_of w.drive) (ledger_of w)

-- what a call that makes u of w keeps
pub record Keeps (w u : World) : Type 0 where
  pub sound : Sound u
  pub onward : Onward (kit_of w.drive) (ledger_of w) (ledger_of u)
  -- a flake that is absent afterwards is as it was, and so is its tag
  pub rests : (n f : ℕ) → n < w.drive.n → f < w.drive.p → bit (record_of (shape_of w.drive) u.vol n).held f ≡ false
      → Same (shape_of w.drive) n f w.vol u.vol

-- contents that agree at each offset agree in each flake
pub plain-same : (s : Shape) (a b : ℕ → ℕ) → ((i : ℕ) → a i ≡ b i) → (n f : ℕ) → plain_in s a n f ≡ plain_in s b n f
unfolding plain_in
plain-same s a b e n f = tab_ext s.f (λ i. a (offset_at s n f i)) (λ i. b (offset_at s n f i)) (λ i h. e (offset_at s n f i))

-- room for one more
pub counter_room_lem : (k : ℕ) → k < 256 ^ 8 → (k ≡ counter_top → ⊥) → k + 1 < 256 ^ 8
counter_room_lem k h top = omega (arith, h, top)

-- nothing is left: each record has the head's epoch
all_moved : (d : Drive) (v : List ℕ) → Finishes d v → (n : ℕ) → n < d.n → (record_of (shape_of d) v n).epoch ≡ d.epoch
all_moved d v b n h = eqb-true (record_of (shape_of d) v n).epoch d.epoch (many-all d.n (is_moved (shape_of d) d.epoch v) b.every_moved n h)

module _ (w : World) (x : Sound w) where
  -- nothing listed, no keycount risen
  retired-same : (v : List ℕ) → ((n : ℕ) → record_of (shape_of w.drive) v n ≡ record_of (shape_of w.drive) w.vol n)
      → w.retired + risen w.drive.p w.drive.n (record_of (shape_of w.drive) w.vol) (record_of (shape_of w.drive) v) ≡ w.retired
  retired-same v e =
      let none = risen-none w.drive.p w.drive.n (record_of (shape_of w.drive) w.vol) (record_of (shape_of w.drive) v) (λ i h. ap (λ (r : Record). r.keycount) (e i)) in
      omega (arith, none)

  -- a call that is refused, or changes nothing
  module _ (after : ℕ → ℕ)
      (e : (n f : ℕ) → n < w.drive.n → f < w.drive.p → plain_in (shape_of w.drive) after n f ≡ plain_in (shape_of w.drive) w.contents n f) where
    same_kept : Kept (kit_of w.drive) (ledger_of w)
        (view_of w.drive w.vol (w.listing ++ []) (w.retired + risen w.drive.p w.drive.n (record_of (shape_of w.drive) w.vol) (record_of (shape_of w.drive) w.vol)) after)
    same_kept =
        record {
          same_records = λ n h. refl;
          same_stored = λ n f a b. refl;
          same_plain = e;
          same_listing = append-nil w.listing;
          same_retired = retired-same w.vol (λ n. refl);
          counter_up = omega arith;
        }

    pub same_keeps : Keeps w (world_after w w.drive w.vol [] w.secret w.old after)
    unfolding world_after secret_at
    same_keeps =
        record {
          sound = record {
            untouched = x.untouched;
            handed = x.handed;
            present = x.present;
            counter = refl;
            inv =
                calms (kit_of w.drive) (ledger_of w) _ x.inv
                (record { kept = same_kept; still_formed = x.inv.formed; same_secrets = λ n h. refl });
          };
          onward = onward-kept (kit_of w.drive) (ledger_of w) _ same_kept;
          rests = λ n f h l gone. record { stored = refl; tag = refl };
        }

  -- another head alone
  module _ (state : State) (epoch counter : ℕ) (present old : List ℕ) (up : w.drive.counter ≤ counter) where
    abbrev d : Drive
    d = w.drive

    abbrev e : Drive
    e = headed w.drive state epoch counter w.drive.node present old

    abbrev z : List ℕ
    z = settled e w.vol

    pub after-head : Ledger
    after-head = view_of e z (w.listing ++ []) (w.retired + risen d.p d.n (record_of (shape_of w.drive) w.vol) (record_of (shape_of w.drive) z)) w.contents

    same_record : (n : ℕ) → record_of (shape_of w.drive) z n ≡ record_of (shape_of w.drive) w.vol n
    same_record n = headed_record d w.vol x.untouched x.handed.salt_long_lem state epoch counter present old n

    pub head-kept : Kept (kit_of d) (ledger_of w) after-head
    unfolding after-head
    head-kept =
        record {
          same_records = λ n h. same_record n;
          same_stored = λ n f a b. (headed-same d w.vol x.untouched x.handed.salt_long_lem state epoch counter present old n f).stored;
          same_plain = λ n f a b. refl;
          same_listing = append-nil w.listing;
          same_retired = retired-same z same_record;
          counter_up = up;
        }

    pub head-untouched : state_fits state epoch ≡ true → Calm (kit_of d) (ledger_of w) after-head → Untouched e z
    unfolding after-head secret_at secret_for
    head-untouched fits calm =
        headed-untouched d w.vol x.untouched x.handed.salt_long_lem state epoch counter present old fits calm.still_formed calm.same_secrets

  -- an accepted begin
  pub begun_keeps : (secret : List ℕ) → Begins w.drive w.vol
      → Keeps w (world_after w (begun_drive w.drive secret) (settled (begun_drive w.drive secret) w.vol) [] secret w.secret w.contents)
  unfolding world_after begun_drive after-head
  begun_keeps secret b =
      let d = w.drive in
      let l = ledger_of w in
      let up : d.counter ≤ d.counter + 1 = omega arith in
      let m = after-head (Changing d.epoch) (d.epoch + 1) (d.counter + 1) secret d.present up in
      let turn : HeadBegun l m = record { was_steady = b.steady; is_changing = refl; epoch_up = refl; old_kept = refl } in
      let calm = begin_calm (kit_of d) l m x.inv (head-kept (Changing d.epoch) (d.epoch + 1) (d.counter + 1) secret d.present up) turn in
      record {
        sound = record {
          untouched = head-untouched (Changing d.epoch) (d.epoch + 1) (d.counter + 1) secret d.present up (begin-fits d w.vol x.untouched b.steady) calm;
          handed = record {
            epoch_lt = omega (arith, x.handed.epoch_lt, b.epoch_room);
            counter_lt = counter_room_lem d.counter x.handed.counter_lt b.counter_room;
            salt_long_lem = x.handed.salt_long_lem;
            kept = sym x.present;
          };
          present = refl;
          counter = refl;
          inv = calms (kit_of d) l m x.inv calm;
        };
        onward = onward-kept (kit_of d) l m calm.kept;
        rests = λ n f h k gone. headed-same d w.vol x.untouched x.handed.salt_long_lem (Changing d.epoch) (d.epoch + 1) (d.counter + 1) secret d.present n f;
      }

  -- an accepted finish
  pub finished_keeps : Finishes w.drive w.vol
      → Keeps w (world_after w (finished_drive w.drive) (settled (finished_drive w.drive) w.vol) [] w.secret w.old w.contents)
  unfolding world_after finished_drive after-head
  finished_keeps b =
      let d = w.drive in
      let l = ledger_of w in
      let up : d.counter ≤ d.counter + 1 = omega arith in
      let m = after-head Steady d.epoch (d.counter + 1) d.present (zeros 32) up in
      let turn : HeadFinished (kit_of d) l m = record { none_left = all_moved d w.vol b; epoch_kept = refl; present_kept = refl } in
      let calm = finish_calm (kit_of d) l m x.inv (head-kept Steady d.epoch (d.counter + 1) d.present (zeros 32) up) turn in
      record {
        sound = record {
          untouched = head-untouched Steady d.epoch (d.counter + 1) d.present (zeros 32) up (finish-fits d w.vol x.untouched b.changing) calm;
          handed = record {
            epoch_lt = x.handed.epoch_lt;
            counter_lt = counter_room_lem d.counter x.handed.counter_lt b.counter_room;
            salt_long_lem = x.handed.salt_long_lem;
            kept = refl;
          };
          present = x.present;
          counter = refl;
          inv = calms (kit_of d) l m x.inv calm;
        };
        onward = onward-kept (kit_of d) l m calm.kept;
        rests = λ n f h k gone. headed-same d w.vol x.untouched x.handed.salt_long_lem Steady d.epoch (d.counter + 1) d.present (zeros 32) n f;
      }
