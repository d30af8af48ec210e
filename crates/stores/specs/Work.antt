-- What a change of nuggets stores, in the order of `worked`: flakes and tags, records, leaves and paths.
use Rattle.std.specs.Prelude.{ℕ, zero, suc, ◌+◌, ◌/◌, List, [], ◌∷◌, ◌++◌}
use Rattle.base.specs.Pick.{pick}
use Rattle.layout.specs.declared.Shape.{Shape}
use Rattle.layout.specs.Shape.{height_of, leaves}
use Rattle.layout.specs.Parts.{record_at, tag_at, node_at, flake_at}
use Rattle.records.specs.declared.Record.{Record}
use Rattle.records.specs.declared.Way.{Way}
use Rattle.records.specs.Record.{record_bytes, record_of}
use Rattle.records.specs.Rule.{turned}
use Rattle.records.specs.Listing.{Entry}
use Rattle.keys.specs.declared.Lock.{Lock}
use Rattle.keys.specs.Pads.{under}
use Rattle.keys.specs.Tags.{tag_of}
use Rattle.nodes.specs.Made.{made_of, store_node}
use Rattle.drive.specs.declared.Drive.{Drive}
use Rattle.drive.specs.Drive.{shape_of}
use Rattle.drive.specs.Head.{head_of}
use Rattle.nuggets.specs.Nugget.{lock_of}
use Rattle.changes.specs.Laid.{laid}
use Rattle.changes.specs.Change.{idles, pads_for, marked_to, tended_to}
use Rattle.stores.specs.Store.{Store, store}

-- "Stored flake = contents xor pad. Tag = Poly1305 under the tag key over the stored flake."
unfoldable pub flake_stores : Shape → Lock → ℕ → List ℕ → List Store
flake_stores s lock f contents =
    let stored = under lock f s.f contents in
    store (flake_at s lock.number f) stored ∷ store (tag_at s lock.number f) (tag_of lock f stored) ∷ []

-- an enciphering, and a list of them
unfoldable pub entry_stores : Shape → List ℕ → (ℕ → ℕ → List ℕ) → Entry → List Store
entry_stores s salt new e = flake_stores s (lock_of s salt e) e.flake (new e.nugget e.flake)

unfoldable pub laid_stores : Shape → List ℕ → (ℕ → ℕ → List ℕ) → List Entry → List Store
laid_stores s salt new [] = []
laid_stores s salt new (e ∷ es) = entry_stores s salt new e ++ laid_stores s salt new es

-- a nugget's record afterwards, and those of the nuggets below n
unfoldable pub record_stores : Shape → ℕ → Way → Record → ℕ → List Store
record_stores s head way r n = pick (idles way) [] (store (record_at s n) (record_bytes s (turned way head r)) ∷ [])

unfoldable pub mark_stores : Shape → ℕ → (ℕ → Way) → List ℕ → ℕ → List Store
mark_stores s head way v zero = []
mark_stores s head way v (suc n) = mark_stores s head way v n ++ record_stores s head (way n) (record_of s v n) n

-- node i and those above it, k in all, each made of the volume as it is by then
unfoldable pub up_stores : Shape → ℕ → ℕ → List ℕ → List Store
up_stores s zero i w = []
up_stores s (suc k) i w = store (node_at s i) (made_of s w i) ∷ up_stores s k (i / 2) (store_node s i w)

-- "leaf and path of each nugget it changed", and those of the nuggets below n
unfoldable pub path_stores : Shape → Way → ℕ → List ℕ → List Store
path_stores s way n w = pick (idles way) [] (up_stores s (suc (height_of s.n)) (leaves s.n + n) w)

unfoldable pub tend_stores : Shape → (ℕ → Way) → ℕ → List ℕ → List Store
tend_stores s way zero w = []
tend_stores s way (suc n) w = tend_stores s way n w ++ path_stores s (way n) n (tended_to s way n w)

-- all that a change of nuggets stores before the head
unfoldable pub work_stores : Drive → List ℕ → (ℕ → Way) → (ℕ → ℕ → List ℕ) → List Store
work_stores d v way new =
    laid_stores (shape_of d) d.salt new (pads_for d v way)
    ++ (mark_stores (shape_of d) d.epoch way v d.n
    ++ tend_stores (shape_of d) way d.n (marked_to (shape_of d) d.epoch way v d.n (laid (shape_of d) d.salt new (pads_for d v way) v)))

-- "renews the seal": the head, last
unfoldable pub head_stores : Drive → List Store
head_stores d = store 0 (head_of d) ∷ []
