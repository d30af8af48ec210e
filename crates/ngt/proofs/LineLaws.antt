-- Promises of the lines, from those of `telling`.
use mathlib.Core.Path.{◌≡◌, ◌∙◌, ap}
use mathlib.Core.List.{List}
use Prim.Native.Nat.{ℕ}
use Rattle.answers.specs.Answer.{Answer}
use Rattle.images.specs.Answers.{answer_image}
use Rattle.line.proofs.PutLaws.{put_as}
use Rattle.drive.specs.declared.Drive.{Drive}
use Rattle.telling.specs.declared.Told.{Told}
use Rattle.telling.specs.Told.{Telling}
use Rattle.ngt.specs.Lines.{Lined}

-- a line and its answer; the drive is the one in the image
pub lined_by : {d e : Drive} {s x answer : List ℕ} {t : Told} (answer-of : Drive → Answer) (text_of : Drive → List ℕ) → d ≡ e
    → Telling (answer-of d) (text_of d) s t x → answer ≡ answer_image t.answer → Lined (answer-of e) (text_of e) s t.count x answer
lined_by answer-of text_of o f g =
    record {
      put = put_as _ _ (ap text_of o) f.put;
      shown = g ∙ ap answer_image (f.answers ∙ ap answer-of o);
    }
