-- What is hashed for a node: its two cases, its length, and that it tells what went into it.
use mathlib.Core.Path.{◌≡◌, refl, sym, ap, ◌∙◌}
use mathlib.Core.Bool.{true, false}
use mathlib.Core.Logic.{◌⊎◌, inl, inr}
use mathlib.Core.List.{List, ◌∷◌, ◌++◌}
use Prim.Native.Nat.{ℕ, ◌+◌, ◌-◌, ◌*◌, ◌<◌, ◌≤◌}
use native.Mathlib.Omega.{arith}
use lib.Dec.{ltb}
use lib.ListN.{length, length-append, take, drop}
use lib.Seq.{take_at, drop_at}
use borrow.Author.Tests.{lt-ltb, le-ltb, ltb-true, ltb-false}
use Rattle.base.specs.Pick.{pick}
use Rattle.base.proofs.PickLaws.{yes, no, told}
use Rattle.base.proofs.PartLaws.{length_part}
use Rattle.words.specs.Le.{le}
use Rattle.words.proofs.LeLaws.{length-le}
use Rattle.layout.specs.Shape.{leaves, width_of}
use Rattle.layout.specs.Parts.{record_at, tag_at, node_at}
use Rattle.layout.specs.Shaped.{Shaped}
use Rattle.layout.specs.declared.Shape.{Shape}
use Rattle.layout.proofs.Limits.{lent_small}
use Rattle.layout.proofs.Places.{record_room, parts_inside}
use Rattle.nodes.specs.Nodes.{node_in, record_part, tags_part}
use Rattle.nodes.specs.Alike.{Alike}
use Rattle.nodes.proofs.Bounds.{node-fits, tags-inside}
use Rattle.twins.specs.Collision.{of_leaf, of_inner, message_of}

-- how long the message of node i is
abbrev pub long_of : Shape → ℕ → ℕ
long_of s i = pick (ltb i (leaves s.n)) 65 (5 + (width_of s + 16 * s.p))

module _ (s : Shape) (v : List ℕ) where
  pub message-inner : (i : ℕ) → i < leaves s.n → message_of s v i ≡ of_inner s v i
  unfolding message_of
  message-inner i h = yes _ (lt-ltb _ _ h) refl

  pub message_bottom : (i : ℕ) → leaves s.n ≤ i → message_of s v i ≡ of_leaf s v (i - leaves s.n)
  unfolding message_of
  message_bottom i h = no _ (le-ltb _ _ h) refl

  pub message-leaf : (n : ℕ) → message_of s v (leaves s.n + n) ≡ of_leaf s v n
  message-leaf n =
      let e : leaves s.n + n - leaves s.n ≡ n = omega arith in
      message_bottom (leaves s.n + n) (omega arith) ∙ ap (of_leaf s v) e

-- the parts stand in the volume
module _ (s : Shape) (v : List ℕ) (l : Shaped s v) where
  pub node_long_lem : (i : ℕ) → i < 2 * leaves s.n → length (node_in s v i) ≡ 32
  node_long_lem i h = length_part (node_at s i) 32 v (node-fits i l h)

  pub record_long : (n : ℕ) → n < s.n → length (record_part s v n) ≡ width_of s
  record_long n h = length_part (record_at s n) (width_of s) v (record_room n l h)

  pub tags-long : (n : ℕ) → n < s.n → length (tags_part s v n) ≡ 16 * s.p
  tags-long n h = length_part (tag_at s n 0) (16 * s.p) v (rw l.size (omega (arith, tags-inside s n h, parts_inside s)))

  leaf-long : (n : ℕ) → n < s.n → length (of_leaf s v n) ≡ 5 + (width_of s + 16 * s.p)
  leaf-long n h =
      let a = length-append (le 4 n) (record_part s v n ++ tags_part s v n) in
      let b = length-append (record_part s v n) (tags_part s v n) in
      omega (arith, a, b, length-le 4 n, record_long n h, tags-long n h)

  inner-long : (i : ℕ) → i < leaves s.n → length (of_inner s v i) ≡ 65
  inner-long i h =
      let a = length-append (node_in s v (2 * i)) (node_in s v (2 * i + 1)) in
      omega (arith, a, node_long_lem (2 * i) (omega arith), node_long_lem (2 * i + 1) (omega arith))

  -- a message is as long as its shape says
  pub message-long : (i : ℕ) → i < leaves s.n + s.n → length (message_of s v i) ≡ long_of s i
  message-long i h = go (told (ltb i (leaves s.n)))
    where
      go : (ltb i (leaves s.n) ≡ true) ⊎ (ltb i (leaves s.n) ≡ false) → length (message_of s v i) ≡ long_of s i
      go (inl e) = let q = ltb-true _ _ e in ap length (message-inner s v i q) ∙ inner-long i q ∙ sym (yes _ e refl)
      go (inr e) =
          let q = ltb-false _ _ e in
          ap length (message_bottom s v i q) ∙ leaf-long (i - leaves s.n) (omega arith) ∙ sym (no _ e refl)

-- and that is some, and no more than 5 + 26 + 16 * 64
pub long-some : (s : Shape) {v : List ℕ} (i : ℕ) → Shaped s v → (1 ≤ long_of s i) × (long_of s i ≤ 1055)
long-some s i l = go (told (ltb i (leaves s.n)))
  where
    go : (ltb i (leaves s.n) ≡ true) ⊎ (ltb i (leaves s.n) ≡ false) → (1 ≤ long_of s i) × (long_of s i ≤ 1055)
    go (inl e) = rw e (omega arith, omega arith)
    go (inr e) = rw e (omega arith, omega (arith, (lent_small l).narrow_record, (lent_small l).few_flakes))

-- equal rows whose first pieces are equally long have equal pieces
pieces : (n : ℕ) (a b c d : List ℕ) → length a ≡ n → length c ≡ n → a ++ b ≡ c ++ d → (a ≡ c) × (b ≡ d)
pieces n a b c d la lc e = (
  sym (take_at a b n la) ∙ ap (λ (x : List ℕ). take n x) e ∙ take_at c d n lc,
  sym (drop_at a b n la) ∙ ap (λ (x : List ℕ). drop n x) e ∙ drop_at c d n lc,
)

module _ (s : Shape) (v w : List ℕ) (lv : Shaped s v) (lw : Shaped s w) where
  -- a leaf's message tells record and tags
  pub leaf-told : (n : ℕ) → n < s.n → of_leaf s v n ≡ of_leaf s w n → Alike s v w n
  leaf-told n h m =
      let front : List ℕ = 0x4C ∷ le 4 n in
      let rest = (pieces (length front) front (record_part s v n ++ tags_part s v n) front (record_part s w n ++ tags_part s w n) refl refl m).1 in
      let two = pieces (width_of s) (record_part s v n) (tags_part s v n) (record_part s w n) (tags_part s w n) (record_long s v lv n h) (record_long s w lw n h) rest in
      record { records = two.0; tags = two.1 }

  -- an inner node's tells its two
  pub inner-told : (i : ℕ) → i < leaves s.n → of_inner s v i ≡ of_inner s w i → (node_in s v (2 * i) ≡ node_in s w (2 * i)) × (node_in s v (2 * i + 1) ≡ node_in s w (2 * i + 1))
  inner-told i h m =
      let rest : node_in s v (2 * i) ++ node_in s v (2 * i + 1) ≡ node_in s w (2 * i) ++ node_in s w (2 * i + 1) = ap (λ (x : List ℕ). drop 1 x) m in
      pieces 32 (node_in s v (2 * i)) (node_in s v (2 * i + 1)) (node_in s w (2 * i)) (node_in s w (2 * i + 1)) (node_long_lem s v lv (2 * i) (omega arith)) (node_long_lem s w lw (2 * i) (omega arith)) rest
