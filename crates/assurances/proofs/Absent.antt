-- Stored bytes of absent flakes, and their tags under an unchanged leaf: a read doesn't look at them.
use mathlib.Core.Path.{◌≡◌, refl, sym, ap, ap₂, ◌∙◌}
use mathlib.Core.Bool.{Bool, true, false}
use mathlib.Core.Logic.{inl}
use mathlib.Core.List.{List}
use Prim.Native.Nat.{ℕ, zero, suc, ◌+◌, ◌*◌, ◌-◌, ◌/◌, ◌<◌, ◌≤◌}
use native.Mathlib.Omega.{arith}
use lib.Bits.{bit_and}
use lib.ListN.{length}
use lib.Seq.{sets, length-sets}
use Rattle.records.proofs.RecordLaws.{record_told}
use Rattle.base.specs.Pick.{pick}
use Rattle.base.specs.Lists.{part, same}
use Rattle.base.proofs.PickLaws.{clash, both_left}
use Rattle.answers.specs.Answer as A
use Rattle.answers.specs.declared.Place.TheVariants as P
use Rattle.answers.specs.Numbers.{accepts}
use Rattle.layout.specs.declared.Shape.{Shape}
use Rattle.layout.specs.Shape.{leaves, height_of, width_of}
use Rattle.layout.specs.Shaped.{Shaped}
use Rattle.layout.specs.Parts.{flakes_at, record_at, tag_at, node_at, flake_at}
use Rattle.layout.proofs.Places.{record_inside, tag-inside, node-inside, parts_inside}
use Rattle.layout.proofs.Height.{leaves-some}
use Rattle.layout.proofs.Limits.{lent_small}
use Rattle.records.specs.Journal.{bit}
use Rattle.records.proofs.BitLaws.{bit_and_lem}
use Rattle.keys.specs.Pads.{under}
use Rattle.nodes.specs.Nodes.{inner_of}
use Rattle.nodes.specs.Made.{made_of, good_node}
use Rattle.nodes.proofs.Bounds.{tags-inside}
use Rattle.nodes.proofs.MadeLaws.{leaf-alike, made_by, made-inner, made_bottom, bottom_leaf, bottom_zero}
use Rattle.tree.specs.Path.{good_record, climbed, path_of, Rises}
use Rattle.records.specs.Record.{record_of}
use Rattle.tree.proofs.Heights.{rises-some, rises-half, rises-leaf}
use Rattle.drive.specs.declared.Drive.{Drive}
use Rattle.drive.specs.Drive.{shape_of, zeros}
use Rattle.drive.specs.Opening.{measure_of, head_stands, opening_of}
use Rattle.nuggets.specs.declared.Nugget.{Nugget}
use Rattle.nuggets.specs.Nugget.{nugget_of, contents_in, contents_of}
use Rattle.nuggets.specs.Tests.{good_flake, passes, flakes_up, flakes_tested, path_for, nugget_read}
use Rattle.changes.proofs.CellLaws.{part_apart, Other, flakes_apart}
use Rattle.changes.proofs.Exact.{yes_same}
use Rattle.assurances.specs.Unseen.{ButAbsent, AbsentUnseen, AbsentBytes}
use Rattle.assurances.proofs.SameReads.{read_alike, buffer_alike}

-- flakes that test alike where the set has them
up_same : (s : Shape) (v w : List ℕ) (g : Nugget) (mask k f : ℕ) → ((i : ℕ) → i < f + k → bit mask i ≡ true → good_flake s w g i ≡ good_flake s v g i)
    → flakes_up s w g mask k f ≡ flakes_up s v g mask k f
unfolding flakes_up passes
up_same s v w g mask zero f h = refl
up_same s v w g mask (suc k) f h =
    rw (up_same s v w g mask k (suc f) (λ i a b. h i (omega arith) b))
    (ap (λ (t : Bool). pick t (flakes_up s v g mask k (suc f)) (A.Altered (P.Flake g.lock.number f))) (yes_same (bit mask f) true (λ on. h f (omega arith) on)))

module _ (d : Drive) (v w : List ℕ) (x : ButAbsent d v w) where
  abbrev s : Shape
  s = shape_of d

  opens : opening_of d w ≡ opening_of d v
  unfolding opening_of measure_of head_stands
  opens = rw (x.long, x.head, x.nodes 1 (omega arith) (omega (arith, leaves-some d.n))) refl

  made-same : (i : ℕ) → i < 2 * leaves d.n → 1 ≤ i → made_of s w i ≡ made_of s v i
  made-same i h some =
      made_by s w i (λ (l : List ℕ). l ≡ made_of s v i)
      (λ l. ap₂ inner_of (x.nodes (2 * i) (omega arith) (omega arith)) (x.nodes (2 * i + 1) (omega arith) (omega arith)) ∙ sym (made-inner s v i l))
      (λ l k. x.made (i - leaves d.n) (omega arith) ∙ sym (bottom_leaf s v i k) ∙ sym (made_bottom s v i l))
      (λ k. sym (bottom_zero s v i k) ∙ sym (made_bottom s v i (omega arith)))

  good-same : (i : ℕ) → i < 2 * leaves d.n → 1 ≤ i → good_node s w i ≡ good_node s v i
  unfolding good_node
  good-same i h some = ap₂ same (x.nodes i some h) (made-same i h some)

  climbed-same : (k j : ℕ) → Rises k j → j < 2 * leaves d.n → climbed s w k j ≡ climbed s v k j
  unfolding climbed
  climbed-same zero j r h = refl
  climbed-same (suc k) j r h =
      rw (good-same j h (rises-some (suc k) j r (omega arith)), climbed-same k (j / 2) (rises-half k j r) (omega arith)) refl

  path-same : Shaped s v → (n : ℕ) → n < d.n → path_for d w n ≡ path_for d v n
  unfolding path_of good_record
  path-same l n h =
      let small = lent_small l in
      rw (
        x.records n h,
        good-same (leaves d.n + n) (omega (arith, small.enough_leaves)) (omega (arith, small.some_leaves)),
        climbed-same (height_of d.n) ((leaves d.n + n) / 2) (rises-half (height_of d.n) (leaves d.n + n) (rises-leaf s n small h)) (omega (arith, small.enough_leaves)),
      ) refl

  nugget-same : (n : ℕ) → n < d.n → nugget_of d w n ≡ nugget_of d v n
  nugget-same n h = rw (x.records n h) refl

  flake-same : (n f : ℕ) → n < d.n → f < d.p → bit (record_of (shape_of d) v n).held f ≡ true → good_flake s w (nugget_of d v n) f ≡ good_flake s v (nugget_of d v n) f
  unfolding good_flake
  flake-same n f h l on = rw (x.tags n f h l on, x.flakes n f h l on) refl

  tests : Shaped s v → (n t : ℕ) → n < d.n → nugget_read d w n t ≡ nugget_read d v n t
  unfolding nugget_read flakes_tested
  tests l n t h =
      let mask = bit_and (record_of (shape_of d) v n).held t in
      rw (path-same l n h, nugget-same n h, x.records n h)
      (yes_same (accepts (path_for d v n)) _
      (λ p. up_same s v w (nugget_of d v n) mask d.p 0
      (λ i a on. flake-same n i h (omega arith) (both_left (bit (record_of (shape_of d) v n).held i) (bit t i) (sym (bit_and_lem (record_of (shape_of d) v n).held t i) ∙ on)))))

  bytes : (n f : ℕ) → n < d.n → f < d.p → contents_of d w n f ≡ contents_of d v n f
  unfolding contents_in
  bytes n f h l =
      ap (λ (g : Nugget). contents_in s w g f) (nugget-same n h)
      ∙ yes_same (bit (record_of (shape_of d) v n).held f) (zeros d.f) (λ on. ap (under (nugget_of d v n).lock f d.f) (x.flakes n f h l on))

pub absent_unseen : AbsentUnseen
absent_unseen d v w o buffer x = (
  read_alike d d.old v w (opens d v w x) (tests d v w x) (λ l n f h k p. bytes d v w x n f h k) o (length buffer),
  buffer_alike d d.old v w (opens d v w x) (tests d v w x) (λ l n f h k p. bytes d v w x n f h k) o buffer,
)

module _ (d : Drive) (v : List ℕ) (n f : ℕ) (other : List ℕ) (h : n < d.n) (few : f < d.p) (off : bit (record_of (shape_of d) v n).held f ≡ false) (long : length other ≡ d.f) where
  abbrev w : List ℕ
  w = sets v (flake_at (shape_of d) n f) other

  -- all that stands before the flakes stays
  before : (at k : ℕ) → at + k ≤ flakes_at (shape_of d) → part at k w ≡ part at k v
  before at k low = part_apart at k v (flake_at (shape_of d) n f) d.f other long (inl (omega (arith, low)))

  far : (m g : ℕ) → bit (record_of (shape_of d) v m).held g ≡ true → Other m g n f
  far m g on p q = clash on (ap₂ (λ (i j : ℕ). bit (record_of (shape_of d) v i).held j) p q ∙ off)

  but_absent : ButAbsent d v w
  but_absent =
      let s = shape_of d in
      let inside = parts_inside s in
      record {
        long = length-sets v (flake_at s n f) other;
        head = before 0 104 (omega arith);
        records = λ m a. record_told (shape_of d) (record_at (shape_of d) m) w v (before (record_at (shape_of d) m) (width_of (shape_of d)) (omega (arith, record_inside s m a, inside)));
        nodes = λ i a b. before (node_at s i) 32 (node-inside s i a b).1;
        made = λ m a.
            leaf-alike s w v m
            (record {
              records = before (record_at (shape_of d) m) (width_of (shape_of d)) (omega (arith, record_inside s m a, inside));
              tags = before (tag_at s m 0) (16 * d.p) (omega (arith, tags-inside s m a, inside));
            });
        flakes = λ m g a b on. part_apart (flake_at s m g) d.f v (flake_at s n f) d.f other long (flakes_apart s m g n f b few (far m g on));
        tags = λ m g a b on. before (tag_at s m g) 16 (omega (arith, tag-inside s m g a b, inside));
      }

pub absent_bytes : AbsentBytes
absent_bytes d v n f other h few off long = but_absent d v n f other h few off long
