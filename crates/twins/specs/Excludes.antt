-- Document 02, Item 10, "What a passing path excludes". Each statement is proved, under the same name in small letters, in
-- proofs/Excludes.antt.
use Rattle.std.specs.Prelude.{◌≡◌, false, List, ℕ, ◌<◌, ◌≤◌, length}
use Rattle.std.proofs.lemmas.List.Edits.{sets}
use Rattle.layout.specs.Shaped.{Shaped}
use Rattle.layout.specs.declared.Shape.{Shape}
use Rattle.answers.specs.Answer as A
use Rattle.answers.specs.Numbers.{accepts}
use Rattle.records.specs.declared.Gauge.{Gauge}
use Rattle.nodes.specs.Nodes.{node_in}
use Rattle.nodes.specs.Alike.{Alike}
use Rattle.tree.specs.Path.{path_of}
use Rattle.drive.specs.declared.Drive.{Drive}
use Rattle.drive.specs.Drive.{shape_of}
use Rattle.twins.specs.Collision.{message_of, Collision}
use Rattle.twins.specs.Twins.{twins_answer, twin_in, twins_of}

-- "Where two volumes of one shape pass one nugget's path test against the same node 1 and differ in its record bytes or tags, two
-- different messages with the same BLAKE2s value can be read off the paths." Each may be held against a gauge of its own.
abbrev pub PathExcludes : Type 0
PathExcludes =
    (s : Shape) (g h : Gauge) (v w : List ℕ) (n : ℕ) → Shaped s v → Shaped s w → n < s.n → path_of s g v n ≡ A.Accepted → path_of s h w n ≡ A.Accepted
    → node_in s v 1 ≡ node_in s w 1 → (Alike s v w n → ⊥) → Collision s v w n

-- the two messages are those of a collision, each that of its own volume, and both of the length told
pub record Shows (d : Drive) (v w : List ℕ) (n : ℕ) (one two : List ℕ) (long : ℕ) : Type 0 where
  pub collision : Collision (shape_of d) v w n
  pub first : one ≡ message_of (shape_of d) v collision.node
  pub second : two ≡ message_of (shape_of d) w collision.node
  pub equally : (length one ≡ long) × (length two ≡ long)
  pub fits : long ≤ 1055

-- "the function that finds them": what it stores shows a collision
abbrev pub TwinsCollide : Type 0
TwinsCollide =
    (d : Drive) (v w : List ℕ) (n : ℕ) → 0 < (twins_of d v w n).length
    → Shows d v w n (twin_in d v w n v) (twin_in d v w n w) (twins_of d v w n).length

-- "and yields nothing exactly when record and tags agree"
abbrev pub TwinsNothing : Type 0
TwinsNothing =
    (d : Drive) (v w : List ℕ) (n : ℕ) → twins_answer d v w n ≡ A.Accepted
    → ((twins_of d v w n).length ≡ 0 → Alike (shape_of d) v w n) × (Alike (shape_of d) v w n → (twins_of d v w n).length ≡ 0)

-- "A refusal stores nothing"; nor is anything stored where nothing is found
abbrev pub TwinsStoreNothing : Type 0
TwinsStoreNothing =
    (d : Drive) (v w : List ℕ) (n : ℕ) → (twins_of d v w n).length ≡ 0
    → (given : List ℕ) → (sets given 0 (twin_in d v w n v) ≡ given) × (sets given 0 (twin_in d v w n w) ≡ given)

abbrev pub TwinsRefused : Type 0
TwinsRefused = (d : Drive) (v w : List ℕ) (n : ℕ) → accepts (twins_answer d v w n) ≡ false → (twins_of d v w n).length ≡ 0
