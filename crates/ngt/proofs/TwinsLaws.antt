-- What `ngt_twins` promises, from what `find` does.
use mathlib.Core.Path.{◌≡◌, ap, ◌∙◌}
use mathlib.Core.List.{List}
use Prim.Native.Nat.{ℕ}
use lib.Seq.{sets}
use Rattle.words.specs.Le.{le}
use Rattle.answers.specs.Numbers.{number_of}
use Rattle.images.specs.Answers.{answer_image}
use Rattle.drive.specs.declared.Drive.{Drive}
use Rattle.twins.specs.declared.Twins.{Twins}
use Rattle.twins.specs.Twins.{twin_in, twins_of}
use Rattle.ngt.specs.Twins.{Compared}
use Rattle.ngt.proofs.CallLaws.{tells-by}

-- the drive is the one in the image
pub compared_by : (v w : List ℕ) (n : ℕ) (one two : List ℕ) {d e : Drive} {t : Twins} {one' two' long answer : List ℕ} {number : ℕ} → d ≡ e
    → (t ≡ twins_of d v w n) × (one' ≡ sets one 0 (twin_in d v w n v)) × (two' ≡ sets two 0 (twin_in d v w n w)) → long ≡ le 4 t.length
    → number ≡ number_of t.answer → answer ≡ answer_image t.answer → Compared e v w n one two number one' two' long answer
compared_by v w n one two {t = t} o p l m a =
    let same = p.0 ∙ ap (λ (x : Drive). twins_of x v w n) o in
    record {
      tells = tells-by (ap (λ (z : Twins). z.answer) same) m a;
      first = p.1 ∙ ap (λ (x : Drive). sets one 0 (twin_in x v w n v)) o;
      second = p.2 ∙ ap (λ (x : Drive). sets two 0 (twin_in x v w n w)) o;
      length = l ∙ ap (λ (z : Twins). le 4 z.length) same;
    }
