-- Document 02, Item 10: "two different messages with the same BLAKE2s value can be read off the paths".
use Rattle.std.specs.Prelude.{Bool, List, [], ℕ, zero, suc, ◌+◌, ◌/◌, ltb, length}
use Rattle.base.specs.Pick.{pick, both}
use Rattle.base.specs.Lists.{same}
use Rattle.layout.specs.Shape.{height_of, leaves}
use Rattle.layout.specs.declared.Shape.{Shape}
use Rattle.answers.specs.Answer.{Answer}
use Rattle.answers.specs.Answer as A
use Rattle.answers.specs.declared.Place.TheVariants as P
use Rattle.answers.specs.Numbers.{accepts}
use Rattle.answers.specs.Stages.{and_then}
use Rattle.nodes.specs.Nodes.{node_in, record_part, tags_part}
use Rattle.tree.specs.Path.{path_of}
use Rattle.drive.specs.declared.Drive.{Drive}
use Rattle.drive.specs.Drive.{shape_of, gauge_of}
use Rattle.drive.specs.Opening.{measure_of}
use Rattle.twins.specs.declared.Twins.{Twins}
use Rattle.twins.specs.Collision.{message_of}

-- "7 path [..] judged by the drive's head; each path ends with node 1 against the drive's, place node 1"
unfoldable pub path_to : Drive → List ℕ → ℕ → Answer
path_to d v n =
    and_then (path_of (shape_of d) (gauge_of d) v n) (pick (same (node_in (shape_of d) v 1) d.node) A.Accepted (A.Altered (P.Node 1)))

-- "it takes one drive and two volumes: 1, 2, 8"
unfoldable pub sizes_of : Drive → List ℕ → List ℕ → ℕ → Answer
sizes_of d v w n = and_then (measure_of d v) (and_then (measure_of d w) (pick (ltb n d.n) A.Accepted A.PastEnd))

-- "then 7 path for the first volume, then the second"
unfoldable pub twins_answer : Drive → List ℕ → List ℕ → ℕ → Answer
twins_answer d v w n = and_then (sizes_of d v w n) (and_then (path_to d v n) (path_to d w n))

-- "record and tags agree", as a test
unfoldable pub alike_in : Shape → List ℕ → List ℕ → ℕ → Bool
alike_in s v w n = both (same (record_part s v n) (record_part s w n)) (same (tags_part s v n) (tags_part s w n))

-- both volumes have the same node i
unfoldable pub same_node : Shape → List ℕ → List ℕ → ℕ → Bool
same_node s v w i = same (node_in s v i) (node_in s w i)

-- the first of node i and those above it that both volumes have alike; behind k others it is the one
unfoldable pub agreeing : Shape → List ℕ → List ℕ → ℕ → ℕ → ℕ
agreeing s v w zero i = i
agreeing s v w (suc k) i = pick (same_node s v w i) i (agreeing s v w k (i / 2))

-- where the two paths meet: from the leaf up, at node 1 at the latest
abbrev pub meeting : Shape → List ℕ → List ℕ → ℕ → ℕ
meeting s v w n = agreeing s v w (height_of s.n) (leaves s.n + n)

-- "yields nothing exactly when record and tags agree": else what volume u, one of the two, hashes for the node where they meet
unfoldable pub found_in : Shape → List ℕ → List ℕ → ℕ → List ℕ → List ℕ
found_in s v w n u = pick (alike_in s v w n) [] (message_of s u (meeting s v w n))

-- the same of the call: nothing if it is refused
unfoldable pub twin_in : Drive → List ℕ → List ℕ → ℕ → List ℕ → List ℕ
twin_in d v w n u = pick (accepts (twins_answer d v w n)) (found_in (shape_of d) v w n u) []

-- what the call hands back
unfoldable pub twins_of : Drive → List ℕ → List ℕ → ℕ → Twins
twins_of d v w n = record { answer = twins_answer d v w n; length = length (twin_in d v w n v) }
