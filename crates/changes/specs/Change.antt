-- A change of nuggets, each in its way: what is tested before, what is listed, and what is stored, in the order of the stores.
use Rattle.std.specs.Prelude.{ℕ, zero, suc, ◌+◌, Bool, true, false, List, eqb}
use Rattle.std.proofs.lemmas.List.Edits.{sets}
use Rattle.base.specs.Pick.{pick}
use Rattle.layout.specs.declared.Shape.{Shape}
use Rattle.layout.specs.Parts.{record_at}
use Rattle.answers.specs.Answer.{Answer}
use Rattle.answers.specs.Answer as A
use Rattle.answers.specs.Stages.{and_then}
use Rattle.records.specs.declared.Record.{Record}
use Rattle.records.specs.declared.Way.{Way}
use Rattle.records.specs.declared.Way.TheVariants.{Idle, Add, Rekey, Clear}
use Rattle.records.specs.Record.{record_bytes, record_of}
use Rattle.records.specs.Rule.{rekeys, turned}
use Rattle.records.specs.Listing.{Entry, pads_to}
use Rattle.nodes.specs.Nodes.{node_in}
use Rattle.tree.specs.Renewed.{renewed}
use Rattle.drive.specs.declared.Drive.{Drive}
use Rattle.drive.specs.Drive.{shape_of, headed, kept_old}
use Rattle.drive.specs.Head.{head_of}
use Rattle.nuggets.specs.Tests.{path_for, flakes_of}
use Rattle.changes.specs.Laid.{laid}

-- the nugget stays as it is
abbrev pub idles : Way → Bool
idles Idle = true
idles (Add t) = false
idles (Rekey t) = false
idles (Clear m) = false

-- one nugget changes in this way, and all others stay as they are
abbrev pub only_at : ℕ → Way → ℕ → Way
only_at n way m = pick (eqb m n) way Idle

-- "each: path; [..] flakes, ascending"; "a rekey tests all of J; a write without rekey tests none"
unfoldable pub nugget_change : Drive → List ℕ → ℕ → Way → Answer
nugget_change d v n way =
    pick (idles way) A.Accepted
    (and_then (path_for d v n)
    (pick (rekeys way) (flakes_of d v n (record_of (shape_of d) v n).held) A.Accepted))

-- "*Nuggets*: ascending": those below n
unfoldable pub tested_to : Drive → List ℕ → (ℕ → Way) → ℕ → Answer
tested_to d v way zero = A.Accepted
tested_to d v way (suc n) = and_then (tested_to d v way n) (nugget_change d v n (way n))

-- "List every enciphering": those of all nuggets, under the present secret
abbrev pub pads_for : Drive → List ℕ → (ℕ → Way) → List Entry
pads_for d v way = pads_to d.p way (record_of (shape_of d) v) d.present d.n

-- a nugget's record afterwards
unfoldable pub marked : Shape → ℕ → Way → Record → ℕ → List ℕ → List ℕ
marked s head way r n w = pick (idles way) w (sets w (record_at s n) (record_bytes s (turned way head r)))

-- the records of the nuggets below n, made of those in v
unfoldable pub marked_to : Shape → ℕ → (ℕ → Way) → List ℕ → ℕ → List ℕ → List ℕ
marked_to s head way v zero w = w
marked_to s head way v (suc n) w = marked s head (way n) (record_of s v n) n (marked_to s head way v n w)

-- "leaf and path of each nugget it changed"
unfoldable pub tended : Shape → Way → ℕ → List ℕ → List ℕ
tended s way n w = pick (idles way) w (renewed s n w)

-- those of the nuggets below n
unfoldable pub tended_to : Shape → (ℕ → Way) → ℕ → List ℕ → List ℕ
tended_to s way zero w = w
tended_to s way (suc n) w = tended s (way n) n (tended_to s way n w)

-- all that a change of nuggets stores before the head: flakes and tags, records, leaves and paths
unfoldable pub worked : Drive → List ℕ → (ℕ → Way) → (ℕ → ℕ → List ℕ) → List ℕ
worked d v way new =
    tended_to (shape_of d) way d.n
    (marked_to (shape_of d) d.epoch way v d.n
    (laid (shape_of d) d.salt new (pads_for d v way) v))

-- "adds 1 to the counter": the drive over a volume whose tree is renewed
unfoldable pub advanced : Drive → List ℕ → Drive
advanced d w = headed d d.state d.epoch (d.counter + 1) (node_in (shape_of d) w 1) d.present (kept_old d.state d.old)

-- "renews the seal": the head that a drive makes, stored last
unfoldable pub settled : Drive → List ℕ → List ℕ
settled d w = sets w 0 (head_of d)
