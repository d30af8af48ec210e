-- The tests that calls on an open drive start with: "All others start 1, 2, 7 head".
use Rattle.std.specs.Prelude.{ℕ, ◌+◌, Bool, List, leb, eqb, length}
use Rattle.base.specs.Pick.{pick, both}
use Rattle.base.specs.Lists.{part, same}
use Rattle.answers.specs.Answer.{Answer}
use Rattle.answers.specs.Answer as A
use Rattle.answers.specs.declared.Place.TheVariants as P
use Rattle.answers.specs.Stages.{and_then}
use Rattle.layout.specs.Shape.{in_limits}
use Rattle.layout.specs.Parts.{length_of, node_at}
use Rattle.drive.specs.declared.Drive.{Drive}
use Rattle.drive.specs.declared.State.{State}
use Rattle.drive.specs.declared.State.TheVariants.{Steady, Changing}
use Rattle.drive.specs.Drive.{shape_of}
use Rattle.drive.specs.Head.{head_of}

-- "Epoch: 1 to 65,535; at least 2 while changing." "That epoch is one below the drive's, or the answer is 1."
-- An epoch has two bytes, so none is above 65,535.
abbrev pub state_fits : State → ℕ → Bool
state_fits Steady e = leb 1 e
state_fits (Changing left) e = both (leb 2 e) (eqb (left + 1) e)

-- 1: "N, P, F, state or epoch out of limits"
unfoldable pub in_form : Drive → Bool
in_form d = both (in_limits (shape_of d)) (state_fits d.state d.epoch)

-- 1, 2: the drive in form, and the volume as long as its shape asks
unfoldable pub measure_of : Drive → List ℕ → Answer
measure_of d v = pick (in_form d) (pick (eqb (length v) (length_of (shape_of d))) A.Accepted A.Length) A.Limits

-- 7 head: "the 104 bytes are those the drive makes, and the volume's node 1 is the drive's"
unfoldable pub head_stands : Drive → List ℕ → Bool
head_stands d v = both (same (part 0 104 v) (head_of d)) (same (part (node_at (shape_of d) 1) 32 v) d.node)

-- "1, 2, 7 head"
unfoldable pub opening_of : Drive → List ℕ → Answer
opening_of d v = and_then (measure_of d v) (pick (head_stands d v) A.Accepted (A.Altered P.Head))
