-- Document 01: "Stored flake shows a backup tool the stored bytes as that part of the volume itself, no copy."
use Rattle.std.specs.Prelude.{ℕ, ◌+◌, Bool, List, [], ltb}
use Rattle.base.specs.Pick.{pick, both}
use Rattle.base.specs.Lists.{part}
use Rattle.layout.specs.Parts.{flake_at}
use Rattle.answers.specs.Answer.{Answer}
use Rattle.answers.specs.Answer as A
use Rattle.answers.specs.Numbers.{accepts}
use Rattle.answers.specs.Stages.{and_then}
use Rattle.drive.specs.declared.Drive.{Drive}
use Rattle.drive.specs.Drive.{shape_of}
use Rattle.drive.specs.Opening.{measure_of}

-- 8: "nugget or flake number past the end"
unfoldable pub is_flake : Drive → ℕ → ℕ → Bool
is_flake d n f = both (ltb n d.n) (ltb f d.p)

-- "Stored flake: 1, 2, 8."
unfoldable pub stored_answer : Drive → List ℕ → ℕ → ℕ → Answer
stored_answer d v n f = and_then (measure_of d v) (pick (is_flake d n f) A.Accepted A.PastEnd)

-- "It is empty exactly for answers 1, 2 or 8"
unfoldable pub stored_flake : Drive → List ℕ → ℕ → ℕ → List ℕ
stored_flake d v n f = pick (accepts (stored_answer d v n f)) (part (flake_at (shape_of d) n f) d.f v) []

-- "that part of the volume itself": where it starts in the volume. The empty part of a refusal stands at the volume's start.
unfoldable pub stored_at : Drive → List ℕ → ℕ → ℕ → ℕ
stored_at d v n f = pick (accepts (stored_answer d v n f)) (flake_at (shape_of d) n f) 0

-- so many bytes on from a place, which is a block and an offset in it
abbrev pub onward : ℕ × ℕ → ℕ → ℕ × ℕ
onward p k = (p.0, k + p.1)
