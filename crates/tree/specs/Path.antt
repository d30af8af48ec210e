-- Document 01, *Path*: "record n if ill formed or its leaf isn't node L + n; then node i, from its parent up, that isn't made of its two."
use Rattle.std.specs.Prelude.{Bool, List, ℕ, zero, suc, ◌+◌, ◌/◌}
use Rattle.base.specs.Pick.{pick, both}
use Rattle.layout.specs.Shape.{height_of, leaves}
use Rattle.layout.specs.declared.Shape.{Shape}
use Rattle.answers.specs.Answer.{Answer}
use Rattle.answers.specs.Answer as A
use Rattle.answers.specs.declared.Place.TheVariants as P
use Rattle.records.specs.declared.Gauge.{Gauge}
use Rattle.records.specs.Record.{record_of, well_formed}
use Rattle.nodes.specs.Made.{good_node}
pub use Rattle.heaps.specs.Paths.{Rises}

-- it is well formed
abbrev pub formed : Shape → Gauge → List ℕ → ℕ → Bool
formed s gauge v n = well_formed s.p gauge (record_of s v n)

-- and its leaf is node L + n
unfoldable pub good_record : Shape → Gauge → List ℕ → ℕ → Bool
good_record s gauge v n = both (formed s gauge v n) (good_node s v (leaves s.n + n))

-- "then node i, from its parent up": node i and those above it, k in all
unfoldable pub climbed : Shape → List ℕ → ℕ → ℕ → Answer
climbed s v zero i = A.Accepted
climbed s v (suc k) i = pick (good_node s v i) (climbed s v k (i / 2)) (A.Altered (P.Node i))

unfoldable pub path_of : Shape → Gauge → List ℕ → ℕ → Answer
path_of s gauge v n =
    pick (good_record s gauge v n) (climbed s v (height_of s.n) ((leaves s.n + n) / 2)) (A.Altered (P.Record n))
