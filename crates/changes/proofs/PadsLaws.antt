-- A nugget's encipherings and a call's, laid: which flakes and tags they put, and what they leave.
use mathlib.Core.Path.{◌≡◌, ◌∙◌}
use mathlib.Core.Bool.{Bool}
use mathlib.Core.List.{List}
use Prim.Native.Nat.{ℕ, ◌+◌, ◌*◌, ◌<◌, ◌≤◌}
use native.Mathlib.Omega.{arith}
use Rattle.base.specs.Lists.{part}
use Rattle.layout.specs.declared.Shape.{Shape}
use Rattle.layout.specs.Shape.{leaves, width_of}
use Rattle.layout.specs.Parts.{record_at, tags_at, tag_at, flake_at, node_at}
use Rattle.layout.proofs.Places.{record_inside}
use Rattle.records.specs.declared.Record.{Record}
use Rattle.records.specs.declared.Way.{Way}
use Rattle.records.specs.Record.{record_of}
use Rattle.records.proofs.RecordLaws.{record_told}
use Rattle.records.specs.Listing.{Entry, pads_of, pads_to}
use Rattle.nodes.specs.Nodes.{node_in}
use Rattle.nuggets.specs.Nugget.{stored_in}
use Rattle.changes.specs.Laid.{laid}
use Rattle.changes.proofs.Each.{Each, each_map, Of, each-pads, chosen, Below, each_to}
use Rattle.changes.proofs.CellLaws.{Other}
use Rattle.changes.proofs.LaidLaws.{laid-leaves, Long, Clear, EntryInside, clear-below, clear-node, clear-flake, clear-tag}

pub to_stands : (s : Shape) (way : ℕ → Way) (records : ℕ → Record) (x : List ℕ) (m : ℕ) → m ≤ s.n → Each (EntryInside s) (pads_to s.p way records x m)
to_stands s way records x m h =
    each_map (Below (chosen way records) m s.p) (EntryInside s) (pads_to s.p way records x m)
    (λ e o. let low = o.under in record { nugget = omega (arith, low, h); flake = o.few }) (each_to s.p way records x m)

-- an entry of the volume's that is another flake's
abbrev pub Far : Shape → ℕ → ℕ → Entry → Type 0
Far s n f e = EntryInside s e × Other n f e.nugget e.flake

module _ (s : Shape) (n f : ℕ) (a : n < s.n) (b : f < s.p) where
  -- entries of the nugget's flakes before f
  pub before_far : (k : ℕ) (x : List ℕ) (g : ℕ → Bool) → Each (Far s n f) (pads_of n k x g f)
  before_far k x g =
      each_map (Of n g f) (Far s n f) (pads_of n k x g f)
      (λ e o. let own = o.own in let few = o.few in (record { nugget = omega (arith, own, a); flake = omega (arith, few, b) }, λ p q. omega (arith, few, q))) (each-pads n k x g f)

  -- entries of nuggets before n
  pub below_far : (way : ℕ → Way) (records : ℕ → Record) (x : List ℕ) (m : ℕ) → m ≤ n → Each (Far s n f) (pads_to s.p way records x m)
  below_far way records x m h =
      each_map (Below (chosen way records) m s.p) (Far s n f) (pads_to s.p way records x m)
      (λ e o. let low = o.under in (record { nugget = omega (arith, low, h, a); flake = o.few }, λ p q. omega (arith, low, h, p))) (each_to s.p way records x m)

  -- entries of another nugget
  pub of_far : (m k : ℕ) (x : List ℕ) (g : ℕ → Bool) → m < s.n → (n ≡ m → ⊥) → Each (Far s n f) (pads_of m k x g s.p)
  of_far m k x g c h =
      each_map (Of m g s.p) (Far s n f) (pads_of m k x g s.p)
      (λ e o. let own = o.own in (record { nugget = omega (arith, own, c); flake = o.few }, λ p q. h (p ∙ own))) (each-pads m k x g s.p)

module _ (s : Shape) (salt : List ℕ) (new : ℕ → ℕ → List ℕ) (long : Long s new) where
  -- head, records and tree stay under any entries of the volume's
  pub laid-below : (at m : ℕ) (es : List Entry) (v : List ℕ) → Each (EntryInside s) es → at + m ≤ tags_at s → part at m (laid s salt new es v) ≡ part at m v
  laid-below at m es v x h = laid-leaves s salt new long at m es v (each_map (EntryInside s) (Clear s at m) es (clear-below s at m h) x)

  pub laid_record : (n : ℕ) (es : List Entry) (v : List ℕ) → Each (EntryInside s) es → n < s.n → record_of s (laid s salt new es v) n ≡ record_of s v n
  laid_record n es v x h = record_told s (record_at s n) (laid s salt new es v) v (laid-below (record_at s n) (width_of s) es v x (record_inside s n h))

  pub laid-node : (i : ℕ) (es : List Entry) (v : List ℕ) → Each (EntryInside s) es → 1 ≤ i → i < 2 * leaves s.n → node_in s (laid s salt new es v) i ≡ node_in s v i
  laid-node i es v x a b = laid-leaves s salt new long (node_at s i) 32 es v (each_map (EntryInside s) (Clear s (node_at s i) 32) es (clear-node s i a b) x)

  -- a flake and its tag stay under entries of others
  module _ (n f : ℕ) (a : n < s.n) (b : f < s.p) where
    pub laid-stored : (es : List Entry) (v : List ℕ) → Each (Far s n f) es → stored_in s (laid s salt new es v) n f ≡ stored_in s v n f
    laid-stored es v x =
        laid-leaves s salt new long (flake_at s n f) s.f es v (each_map (Far s n f) (Clear s (flake_at s n f) s.f) es (λ e q. clear-flake s n f a b e q.0 q.1) x)

    pub laid-tag : (es : List Entry) (v : List ℕ) → Each (Far s n f) es → part (tag_at s n f) 16 (laid s salt new es v) ≡ part (tag_at s n f) 16 v
    laid-tag es v x =
        laid-leaves s salt new long (tag_at s n f) 16 es v (each_map (Far s n f) (Clear s (tag_at s n f) 16) es (λ e q. clear-tag s n f a b e q.0 q.1) x)
