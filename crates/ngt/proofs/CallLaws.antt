-- Promises of the C interface, from those of the calls.
use mathlib.Core.Path.{◌≡◌, refl, ◌∙◌, ap}
use mathlib.Core.Bool.{Bool, true}
use mathlib.Core.List.{List, [], ◌∷◌}
use Prim.Native.Nat.{ℕ}
use Rattle.answers.specs.Answer.{Answer}
use Rattle.answers.specs.Numbers.{number_of, accepts}
use Rattle.layout.specs.Shape.{in_limits}
use Rattle.images.specs.Answers.{answer_image}
use Rattle.drive.specs.declared.Drive.{Drive}
use Rattle.drive.specs.declared.Done.{Done}
use Rattle.drive.specs.Drive.{shape_of}
use Rattle.reports.specs.Stored.{stored_answer}
use Rattle.reports.proofs.AnswerLaws.{stored_is}
use Rattle.words.specs.Le.{le, serialised}
use Rattle.queues.specs.declared.Queued.{Queued}
use Rattle.ngt.specs.Calls.{Tells, report_image, image_after, Changed, counter_rose, Queues}
use Rattle.ngt.specs.Summary.{tally_image}
use Rattle.reports.specs.declared.told.Report.{Report}

-- an accepted stored flake has a shape in limits, so its place is the paper's
pub stored_limits : (d : Drive) (v : List ℕ) (n f : ℕ) → accepts (stored_answer d v n f) ≡ true → in_limits (shape_of d) ≡ true
stored_limits d v n f h = (stored_is d v n f h).lent.limited

-- an answer told by its number and its image
pub tells-by : {a b : Answer} {number : ℕ} {answer : List ℕ} → a ≡ b → number ≡ number_of a → answer ≡ answer_image a → Tells b number answer
tells-by e f g = record { told = f ∙ ap number_of e; shown = g ∙ ap answer_image e }

-- a call that may change drive and volume, told by what it handed back; the drive is the one in the image
pub changed_by_lem : {d e : Drive} {done : Done} {changes : Bool} {given vol image answer : List ℕ} {number : ℕ} (done-of : Drive → Done) (changes-by : Done → Bool) (volume-of : Drive → List ℕ) → d ≡ e
    → done ≡ done-of d → vol ≡ volume-of d → changes ≡ changes-by done → image ≡ image_after changes done.drive given → number ≡ number_of done.answer
    → answer ≡ answer_image done.answer → Changed (done-of e) (changes-by (done-of e)) (volume-of e) given number vol image answer
changed_by_lem {d} {e} {done} {changes} {given} done-of changes-by volume-of o h v c i n a =
    let same : done ≡ done-of e = h ∙ ap done-of o in
    record {
      tells = tells-by (ap (λ (z : Done). z.answer) same) n a;
      volume = v ∙ ap volume-of o;
      drive = i ∙ ap (λ (b : Bool). image_after b done.drive given) c ∙ ap (λ (z : Done). image_after (changes-by z) z.drive given) same;
    }

-- a queue, told by what it handed back; the drive is the one in the image
pub queues_by : {d e : Drive} {queued : Queued} {changes : Bool} {given vol image done answer : List ℕ} {number : ℕ} (queued-of : Drive → Queued) (volume-of : Drive → List ℕ) → d ≡ e
    → queued ≡ queued-of d → vol ≡ volume-of d → changes ≡ counter_rose d queued.drive → image ≡ image_after changes queued.drive given → done ≡ le 8 queued.outcome.done
    → number ≡ number_of queued.outcome.answer → answer ≡ answer_image queued.outcome.answer → Queues e (queued-of e) (volume-of e) given number vol image done answer
queues_by {d} {e} {queued} {changes} {given} queued-of volume-of o h v c i k n a =
    let same : queued ≡ queued-of e = h ∙ ap queued-of o in
    record {
      tells = tells-by (ap (λ (z : Queued). z.outcome.answer) same) n a;
      volume = v ∙ ap volume-of o;
      drive = i ∙ ap (λ (b : Bool). image_after b queued.drive given) c ∙ ap (λ (x : Drive). image_after (counter_rose x queued.drive) queued.drive given) o
          ∙ ap (λ (z : Queued). image_after (counter_rose e z.drive) z.drive given) same;
      counts = k ∙ ap (λ (z : Queued). le 8 z.outcome.done) same;
    }

-- numbers in a row are the images that list them
pub report_row : (r : Report) → serialised (r.n ∷ r.moved ∷ r.left ∷ r.flakes ∷ r.share ∷ []) ≡ report_image r
unfolding serialised le
report_row r = refl

pub tally_row : (r : Report) → serialised (r.n ∷ r.moved ∷ r.left ∷ r.flakes ∷ r.share ∷ r.done ∷ []) ≡ tally_image r
unfolding serialised le
tally_row r = refl

pub lone_row : (x : ℕ) → serialised (x ∷ []) ≡ le 4 x
unfolding serialised le
lone_row x = refl
