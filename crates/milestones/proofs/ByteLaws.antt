-- The volume over given records is one of bytes.
use Prim.{Unit, tt}
use mathlib.Core.Bool.{Bool, true, false}
use mathlib.Core.List.{List, [], ◌∷◌}
use Prim.Native.Nat.{ℕ, zero, suc, ◌+◌, ◌-◌, ◌*◌, ◌<◌}
use native.Mathlib.Omega.{arith}
use lib.Dec.{ltb}
use lib.ListN.{set}
use lib.Seq.{sets}
use Rattle.base.specs.Pick.{pick}
use Rattle.words.specs.Le.{le, Bytes}
use Rattle.words.proofs.LeLaws.{le_bytes, bytes-append}
use Rattle.codec.specs.Row.{Field, number, string, Value, Values, ◌&◌, row}
use Rattle.messages.specs.Messages.{check_message, seal_message, leaf_message, inner_message}
use Rattle.blake2s.proofs.FaceLaws.{hash-bytes}
use Rattle.layout.specs.declared.Shape.{Shape}
use Rattle.layout.specs.Shape.{leaves, is_one}
use Rattle.layout.specs.Parts.{record_at, node_at, length_of}
use Rattle.records.specs.declared.Record.{Record}
use Rattle.records.specs.Record.{record_row, record_values, record_bytes}
use Rattle.nodes.specs.Nodes.{node_in, record_part, tags_part, leaf_of, inner_of, zero_leaf}
use Rattle.nodes.specs.Made.{bottom_of, made_of, store_node}
use Rattle.heaps.specs.Paths as Paths
use Rattle.tree.specs.Renewed.{stored_down, built}
use Rattle.keys.specs.Keys.{check_of, seal_of}
use Rattle.drive.specs.Drive.{zeros}
use Rattle.drive.specs.Head.{mark, front_row, front_values, front_in, head_of}
use Rattle.milestones.specs.Spread.{wide_shape, laid_to, treed, drive_over, volume_over}

-- bytes stored over bytes
bytes-set : (l : List ℕ) (i a : ℕ) → a < 256 → Bytes l → Bytes (set l i a)
bytes-set [] i a h b j = b j
bytes-set (x ∷ l) zero a h b zero = h
bytes-set (x ∷ l) zero a h b (suc j) = b (suc j)
bytes-set (x ∷ l) (suc i) a h b zero = b zero
bytes-set (x ∷ l) (suc i) a h b (suc j) = bytes-set l i a h (λ k. b (suc k)) j

bytes-sets : (vs l : List ℕ) (at : ℕ) → Bytes l → Bytes vs → Bytes (sets l at vs)
bytes-sets [] l at b c = b
bytes-sets (v ∷ vs) l at b c = bytes-sets vs (set l at v) (suc at) (bytes-set l at v (c zero) b) (λ k. c (suc k))

bytes-zeros : (n : ℕ) → Bytes (zeros n)
bytes-zeros zero i = omega arith
bytes-zeros (suc n) zero = omega arith
bytes-zeros (suc n) (suc i) = bytes-zeros n i

-- a row whose strings are bytes
abbrev FieldBytes : (f : Field) → Value f → Type 0
FieldBytes (number k) x = Unit {0}
FieldBytes (string k) l = Bytes l

abbrev AllBytes : (fs : List Field) → Values fs → Type 0
AllBytes [] vs = Unit {0}
AllBytes (f ∷ fs) vs = FieldBytes f vs.0 × AllBytes fs vs.1

row-bytes : (fs : List Field) (vs : Values fs) → AllBytes fs vs → Bytes (row fs vs)
row-bytes [] vs b i = omega arith
row-bytes (number k ∷ fs) vs b i = bytes-append (le k vs.0) (row fs vs.1) (le_bytes k vs.0) (row-bytes fs vs.1 b.1) i
row-bytes (string k ∷ fs) vs b i = bytes-append vs.0 (row fs vs.1) b.0 (row-bytes fs vs.1 b.1) i

record_bytes_lem : (s : Shape) (r : Record) → Bytes (record_bytes s r)
unfolding record_bytes
record_bytes_lem s r = go (is_one s)
  where
    go : (one : Bool) → Bytes (row (record_row one) (record_values one r))
    go true = row-bytes (record_row true) (record_values true r) (tt & tt & tt & tt)
    go false = row-bytes (record_row false) (record_values false r) (tt & tt & tt & tt & tt)

mark-bytes : Bytes mark
mark-bytes zero = omega arith
mark-bytes (suc zero) = omega arith
mark-bytes (suc (suc zero)) = omega arith
mark-bytes (suc (suc (suc i))) = omega arith

check_bytes_lem : (old salt : List ℕ) (epoch : ℕ) → Bytes (check_of old salt epoch)
unfolding check_of
check_bytes_lem old salt epoch = hash-bytes old (check_message salt epoch)

seal_bytes_lem : (secret front node : List ℕ) → Bytes (seal_of secret front node)
unfolding seal_of
seal_bytes_lem secret front node = hash-bytes secret (seal_message front node)

laid_bytes_lem : (s : Shape) (g : ℕ → Record) (k : ℕ) (v : List ℕ) → Bytes v → Bytes (laid_to s g k v)
unfolding laid_to
laid_bytes_lem s g zero v b = b
laid_bytes_lem s g (suc k) v b = bytes-sets (record_bytes s (g k)) (laid_to s g k v) (record_at s k) (laid_bytes_lem s g k v b) (record_bytes_lem s (g k))

made_bytes : (s : Shape) (v : List ℕ) (i : ℕ) → Bytes (made_of s v i)
unfolding made_of bottom_of leaf_of inner_of zero_leaf
made_bytes s v i = go (ltb i (leaves s.n)) (ltb i (leaves s.n + s.n))
  where
    n : ℕ
    n = i - leaves s.n

    go : (x y : Bool) → Bytes (pick x (inner_of (node_in s v (2 * i)) (node_in s v (2 * i + 1))) (pick y (leaf_of s v (i - leaves s.n)) zero_leaf))
    go true y = hash-bytes [] (inner_message (node_in s v (2 * i)) (node_in s v (2 * i + 1)))
    go false true = hash-bytes [] (leaf_message n (record_part s v n) (tags_part s v n))
    go false false = bytes-zeros 32

down-bytes : (s : Shape) (k : ℕ) (v : List ℕ) → Bytes v → Bytes (stored_down s k v)
unfolding Paths.stored_down store_node
down-bytes s zero v b = b
down-bytes s (suc k) v b = down-bytes s k (store_node s (suc k) v) (bytes-sets (made_of s v (suc k)) v (node_at s (suc k)) b (made_bytes s v (suc k)))

pub over-bytes : (n : ℕ) (g : ℕ → Record) → Bytes (volume_over n g)
unfolding volume_over treed built head_of front_in drive_over
over-bytes n g =
    let d = drive_over n g in
    let front = row-bytes front_row (front_values d) (mark-bytes & tt & tt & tt & tt & tt & tt & bytes-zeros 16 & tt & check_bytes_lem (zeros 32) (zeros 16) 2 & tt) in
    bytes-sets (head_of d) (treed n g) 0
    (down-bytes (wide_shape n) (2 * leaves n - 1) (laid_to (wide_shape n) g n (zeros (length_of (wide_shape n)))) (laid_bytes_lem (wide_shape n) g n (zeros (length_of (wide_shape n))) (bytes-zeros (length_of (wide_shape n)))))
    (bytes-append (front_in d) _ front (seal_bytes_lem (zeros 32) (front_in d) d.node))
