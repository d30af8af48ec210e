-- Begin and finish: they change the head alone, and what nobody touched is untouched afterwards.
use mathlib.Core.Path.{◌≡◌, refl, ap, ◌∙◌}
use mathlib.Core.Bool.{true, false}
use mathlib.Core.List.{List}
use Prim.Native.Nat.{ℕ, ◌+◌, ◌<◌}
use native.Mathlib.Omega.{arith}
use lib.Dec.{leb}
use lib.ListN.{length}
use borrow.Author.Tests.{eq-eqb, le-leb, leb-true}
use Rattle.base.specs.Lists.{part, same}
use Rattle.base.proofs.PickLaws.{both_left, both_right, both-on, clash}
use Rattle.base.proofs.FoldLaws.{same_true, same_refl}
use Rattle.answers.specs.Answer as A
use Rattle.layout.specs.declared.Shape.{Shape}
use Rattle.layout.specs.Shape.{in_limits}
use Rattle.layout.specs.Shaped.{Shaped}
use Rattle.layout.specs.Parts.{length_of, node_at}
use Rattle.records.specs.declared.Record.{Record}
use Rattle.records.specs.Record.{against, well_formed, record_of}
use Rattle.nodes.specs.Nodes.{node_in}
use Rattle.drive.specs.declared.Drive.{Drive}
use Rattle.drive.specs.declared.State.{State}
use Rattle.drive.specs.declared.State.TheVariants.{Steady, Changing}
use Rattle.drive.specs.Drive.{shape_of, is_changing, headed}
use Rattle.drive.specs.Head.{head_of}
use Rattle.drive.specs.Opening.{state_fits as drive_fits, in_form, head_stands, opening_of}
use Rattle.drive.proofs.HeadLaws.{form_limits}
use Rattle.nuggets.specs.Nugget.{secret_for, lock_by, nugget_of}
use Rattle.nuggets.specs.Tests.{good_flake, good_flake_of}
use Rattle.opening.proofs.Reopens.{length-head}
use Rattle.changes.specs.Change.{settled}
use Rattle.changes.proofs.PutLaws.{Same}
use Rattle.changes.proofs.SettleLaws.{settled_lent, settled-head, settled_record, settled_same, settled-node, settled-good}
use Rattle.history.proofs.Quiet.{Untouched}
use Rattle.drive.proofs.OpeningLaws.{opening-told, opening-by}

-- a drive in form opens the volume on which its head was stored last
pub settled_opens : (d : Drive) (w : List ℕ) → length d.salt ≡ 16 → in_form d ≡ true → length w ≡ length_of (shape_of d) → node_in (shape_of d) w 1 ≡ d.node
    → opening_of d (settled d w) ≡ A.Accepted
unfolding head_stands
settled_opens d w salted form size node =
    let long = length-head d salted in
    let lent : Shaped (shape_of d) w = record { limited = form_limits d form; size = size } in
    let u = settled d w in
    let head : same (part 0 104 u) (head_of d) ≡ true = ap (λ (l : List ℕ). same l (head_of d)) (settled-head (shape_of d) d w long lent) ∙ same_refl (head_of d) in
    let top : same (part (node_at (shape_of d) 1) 32 u) d.node ≡ true =
    ap (λ (l : List ℕ). same l d.node) (settled-node (shape_of d) d w long 1 (omega arith) ∙ node) ∙ same_refl d.node in
    opening-by d u form (settled_lent (shape_of d) d w long lent).size (both-on head top)

-- what an untouched volume's length and node 1 are
pub untouched-size : {d : Drive} {v : List ℕ} → Untouched d v → length v ≡ length_of (shape_of d)
untouched-size {d} {v} x = (opening-told d v x.opens).long

pub untouched-node : {d : Drive} {v : List ℕ} → Untouched d v → node_in (shape_of d) v 1 ≡ d.node
unfolding head_stands
untouched-node {d} {v} x =
    same_true (node_in (shape_of d) v 1) d.node (both_right (same (part 0 104 v) (head_of d)) _ (opening-told d v x.opens).stands)

-- a tag is right under a lock of the same numbers, by whatever shape and whatever flakes are held
flake-kept : (s t : Shape) (v w : List ℕ) (n f held kept : ℕ) {salt salts by with : List ℕ} {k l : ℕ} → t ≡ s → Same s n f v w → salts ≡ salt → by ≡ with → l ≡ k
    → good_flake s v (record { lock = lock_by s salt with n k; held = held }) f ≡ true → good_flake t w (record { lock = lock_by t salts by n l; held = kept }) f ≡ true
unfolding good_flake
flake-kept s t v w n f held kept shaped same salted secrets keycounts h = rw (shaped, same.tag, same.stored, salted, secrets, keycounts) h

-- a flake whose bytes, tag, key and keycount are as they were has a right tag if it had one
pub tag-kept : (d e : Drive) (v w : List ℕ) (n f : ℕ) → shape_of e ≡ shape_of d → e.salt ≡ d.salt → Same (shape_of d) n f v w
    → (record_of (shape_of d) w n).keycount ≡ (record_of (shape_of d) v n).keycount → secret_for e (record_of (shape_of d) w n).epoch ≡ secret_for d (record_of (shape_of d) v n).epoch
    → good_flake_of d v n f ≡ true → good_flake_of e w n f ≡ true
tag-kept d e v w n f shaped salted kept keycounts secrets h =
    flake-kept (shape_of d) (shape_of e) v w n f (nugget_of d v n).held (nugget_of e w n).held shaped kept salted (ap (λ (s : Shape). secret_for e (record_of s w n).epoch) shaped ∙ secrets)
    (ap (λ (s : Shape). (record_of s w n).keycount) shaped ∙ keycounts) h

-- a head stored over an untouched volume, node 1 as it is: the records have to fit it, and it has to name their secrets as before
module _ (d : Drive) (v : List ℕ) (x : Untouched d v) (salted : length d.salt ≡ 16) (state : State) (epoch counter : ℕ) (present old : List ℕ) where
  abbrev e : Drive
  e = headed d state epoch counter d.node present old

  long : length (head_of e) ≡ 104
  long = length-head e salted

  pub headed_record : (n : ℕ) → record_of (shape_of d) (settled e v) n ≡ record_of (shape_of d) v n
  headed_record n = settled_record (shape_of d) e v long n

  pub headed-same : (n f : ℕ) → Same (shape_of d) n f v (settled e v)
  headed-same n f = settled_same (shape_of d) e v long n f

  form : drive_fits state epoch ≡ true → in_form e ≡ true
  unfolding in_form
  form fits = both-on (form_limits d (opening-told d v x.opens).form) fits

  pub headed-untouched : drive_fits state epoch ≡ true → ((n : ℕ) → n < d.n → well_formed d.p (against epoch (is_changing state) counter) (record_of (shape_of d) v n) ≡ true)
      → ((n : ℕ) → n < d.n → secret_for e (record_of (shape_of d) v n).epoch ≡ secret_for d (record_of (shape_of d) v n).epoch) → Untouched e (settled e v)
  headed-untouched fits formed secrets =
      record {
        opens = settled_opens e v salted (form fits) (untouched-size x) (untouched-node x);
        good = settled-good (shape_of d) e v long x.good;
        well = λ n h. rw (headed_record n) (formed n h);
        tags = λ n f h l on.
            tag-kept d e v (settled e v) n f refl refl (settled_same (shape_of d) e v long n f) (ap (λ (r : Record). r.keycount) (headed_record n))
            (ap (λ (r : Record). secret_for e r.epoch) (headed_record n) ∙ secrets n h)
            (x.tags n f h l (rw (headed_record n) at on));
      }

-- the epochs of a begun and of a finished drive
begun-fits : (s : State) (e : ℕ) → is_changing s ≡ false → drive_fits s e ≡ true → drive_fits (Changing e) (e + 1) ≡ true
begun-fits Steady e q f = both-on (le-leb 2 (e + 1) (omega (arith, leb-true 1 e f))) (eq-eqb (e + 1) (e + 1) refl)
begun-fits (Changing left) e q f = absurd (clash refl q)

finished-fits : (s : State) (e : ℕ) → is_changing s ≡ true → drive_fits s e ≡ true → drive_fits Steady e ≡ true
finished-fits Steady e q f = absurd (clash q refl)
finished-fits (Changing left) e q f = le-leb 1 e (omega (arith, leb-true 2 e (both_left (leb 2 e) _ f)))

module _ (d : Drive) (v : List ℕ) (x : Untouched d v) where
  fits : drive_fits d.state d.epoch ≡ true
  unfolding in_form
  fits = both_right (in_limits (shape_of d)) _ (opening-told d v x.opens).form

  pub begin-fits : is_changing d.state ≡ false → drive_fits (Changing d.epoch) (d.epoch + 1) ≡ true
  begin-fits steady = begun-fits d.state d.epoch steady fits

  pub finish-fits : is_changing d.state ≡ true → drive_fits Steady d.epoch ≡ true
  finish-fits changing = finished-fits d.state d.epoch changing fits
