-- Four numbers that lie limb by limb: what stands in a lane after stores.
use mathlib.Core.Path.{◌≡◌, ap, sym, ◌∙◌}
use mathlib.Core.Logic.{⊎_elim}
use mathlib.Core.List.{List}
use Prim.Native.Nat.{ℕ, ◌+◌, ◌*◌, ◌%◌, ◌/◌, ◌^◌, ◌<◌, ◌≤◌}
use native.Mathlib.Omega.{arith}
use borrow.Author.Tests.{ltb-true, ltb-false}
use lib.Dec.{ltb, lit<, lit≤}
use lib.ListN.{length, get_or, set, length-set}
use lib.Seq.{get_or-set_same, get_or-set_other}
use Rattle.base.proofs.PickLaws.{told}
use Rattle.limbs.specs.declared.Limbs.{Limbs}
use Rattle.limbs.specs.Limbs.{at, value, p}
use Rattle.limbs.specs.Bounds.{Below, Stands, Holds, Sums, Fives}
use Rattle.limbs.specs.Lanes.{lane_of, block_at, LanePut, Blocks}
use Rattle.limbs.proofs.Field.{plus}
use Rattle.limbs.proofs.Digits.{wraps}
use Rattle.limbs.proofs.TurnLaws.{wider, sums_value, sums_below}
use Rattle.limbs.proofs.FourLaws.{more}

-- five stores at l, 4 + l, .., 16 + l
module _ (w : List ℕ) (l : ℕ) (x : Limbs) (long : length w ≡ 20) (small : l < 4) where
  abbrev w0 : List ℕ
  w0 = set w l x.l0

  abbrev w1 : List ℕ
  w1 = set w0 (4 + l) x.l1

  abbrev w2 : List ℕ
  w2 = set w1 (8 + l) x.l2

  abbrev w3 : List ℕ
  w3 = set w2 (12 + l) x.l3

  abbrev w4 : List ℕ
  w4 = set w3 (16 + l) x.l4

  long0 : length w0 ≡ 20
  long0 = length-set w l x.l0 ∙ long

  long1 : length w1 ≡ 20
  long1 = length-set w0 (4 + l) x.l1 ∙ long0

  long2 : length w2 ≡ 20
  long2 = length-set w1 (8 + l) x.l2 ∙ long1

  long3 : length w3 ≡ 20
  long3 = length-set w2 (12 + l) x.l3 ∙ long2

  -- what is stored later, elsewhere
  past1 : (i : ℕ) → (i ≡ 8 + l → ⊥) → (i ≡ 12 + l → ⊥) → (i ≡ 16 + l → ⊥) → get_or w4 i 0 ≡ get_or w1 i 0
  past1 i a b c = get_or-set_other w3 (16 + l) i x.l4 0 c ∙ get_or-set_other w2 (12 + l) i x.l3 0 b ∙ get_or-set_other w1 (8 + l) i x.l2 0 a

  kept : (i : ℕ) → (i % 4 ≡ l → ⊥) → get_or w4 i 0 ≡ get_or w i 0
  kept i d =
      past1 i (λ e. d (omega arith)) (λ e. d (omega arith)) (λ e. d (omega arith)) ∙ get_or-set_other w0 (4 + l) i x.l1 0 (λ e. d (omega arith))
      ∙ get_or-set_other w l i x.l0 0 (λ e. d (omega arith))

  at0 : get_or w4 l 0 ≡ x.l0
  at0 =
      past1 l (λ e. omega arith) (λ e. omega arith) (λ e. omega arith) ∙ get_or-set_other w0 (4 + l) l x.l1 0 (λ e. omega arith)
      ∙ get_or-set_same w l x.l0 0 (omega arith)

  at1 : get_or w4 (4 + l) 0 ≡ x.l1
  at1 = past1 (4 + l) (λ e. omega arith) (λ e. omega arith) (λ e. omega arith) ∙ get_or-set_same w0 (4 + l) x.l1 0 (omega (arith, long0))

  at2 : get_or w4 (8 + l) 0 ≡ x.l2
  at2 =
      get_or-set_other w3 (16 + l) (8 + l) x.l4 0 (λ e. omega arith) ∙ get_or-set_other w2 (12 + l) (8 + l) x.l3 0 (λ e. omega arith)
      ∙ get_or-set_same w1 (8 + l) x.l2 0 (omega (arith, long1))

  at3 : get_or w4 (12 + l) 0 ≡ x.l3
  at3 = get_or-set_other w3 (16 + l) (12 + l) x.l4 0 (λ e. omega arith) ∙ get_or-set_same w2 (12 + l) x.l3 0 (omega (arith, long2))

  at4 : get_or w4 (16 + l) 0 ≡ x.l4
  at4 = get_or-set_same w3 (16 + l) x.l4 0 (omega (arith, long3))

  pub put_all : LanePut l x w w4
  put_all =
      record {
        long = length-set w3 (16 + l) x.l4 ∙ long3 ∙ sym long;
        here = rw (at0, at1, at2, at3, at4);
        others =
            λ j h d. rw (
              kept j (λ e. d (omega arith)),
              kept (4 + j) (λ e. d (omega arith)),
              kept (8 + j) (λ e. d (omega arith)),
              kept (12 + j) (λ e. d (omega arith)),
              kept (16 + j) (λ e. d (omega arith)),
            );
      }

-- a fact of the lanes below l, and what is true of x in lane l
pub done_more : (Q : ℕ → Limbs → Type 0) {l : ℕ} {x : Limbs} {w v : List ℕ} → l < 4 → LanePut l x w v → Q l x → ((j : ℕ) → j < l → Q j (lane_of w j))
    → (j : ℕ) → j < l + 1 → Q j (lane_of v j)
done_more Q {l} {x} {w} {v} small put now old j h =
    ⊎_elim
    (λ e. let b : j < l = ltb-true j l e in
    rw (put.others j (omega arith) (λ z. omega arith)) (old j b))
    (λ e. let z : j ≡ l = omega (arith, ltb-false j l e) in
    rw (z, put.here) now)
    (told (ltb j l))

-- the lanes from l on are as they were
pub left_more : {l : ℕ} {x : Limbs} (u : List ℕ) {w v : List ℕ} → LanePut l x w v → ((j : ℕ) → l ≤ j → j < 4 → lane_of w j ≡ lane_of u j)
    → (j : ℕ) → l + 1 ≤ j → j < 4 → lane_of v j ≡ lane_of u j
left_more u put old j h k = put.others j k (λ z. omega arith) ∙ old j (omega arith) k

-- the parts of a block in their limbs, and what stands above them
parts_are : (lo hi top : ℕ) → at (2 ^ 26) (lo % 2 ^ 26) (lo / 2 ^ 26) (hi % 2 ^ 14 * 2 ^ 12) (hi / 2 ^ 14) top ≡ lo + 2 ^ 64 * hi + 2 ^ 104 * top
unfolding at
parts_are lo hi top =
    let e : hi % 2 ^ 14 * 2 ^ 12 + 2 ^ 26 * (hi / 2 ^ 14 + 2 ^ 26 * top) ≡ 2 ^ 12 * hi + 2 ^ 52 * top = omega arith in
    rw e (omega arith)

-- the sums of products for x, and the parts of a block added to them
pub mul-added : (d0 d1 d2 d3 d4 lo hi x : ℕ) → at (2 ^ 26) d0 d1 d2 d3 d4 % p ≡ x % p
    → at (2 ^ 26) (d0 + lo % 2 ^ 26) (d1 + lo / 2 ^ 26) (d2 + hi % 2 ^ 14 * 2 ^ 12) (d3 + hi / 2 ^ 14) (d4 + 2 ^ 24) % p
    ≡ (x + (lo + 2 ^ 64 * hi + 2 ^ 104 * 2 ^ 24)) % p
mul-added d0 d1 d2 d3 d4 lo hi x e =
    ap (λ (z : ℕ). z % p) (sym (plus (2 ^ 26) d0 d1 d2 d3 d4 (lo % 2 ^ 26) (lo / 2 ^ 26) (hi % 2 ^ 14 * 2 ^ 12) (hi / 2 ^ 14) (2 ^ 24)))
    ∙ more (2 ^ 26) p wraps (at (2 ^ 26) d0 d1 d2 d3 d4) x (at (2 ^ 26) (lo % 2 ^ 26) (lo / 2 ^ 26) (hi % 2 ^ 14 * 2 ^ 12) (hi / 2 ^ 14) (2 ^ 24)) e
    ∙ ap (λ (z : ℕ). (x + z) % p) (parts_are lo hi (2 ^ 24))

-- the same numbers by other names
pub stands_by : {h r h' r' x : Limbs} {n n' : ℕ} → Stands (value h * value r + (n + 2 ^ 104 * 2 ^ 24)) x → h ≡ h' → r ≡ r' → n' ≡ n
    → Stands (value h' * value r' + (n' + 2 ^ 104 * 2 ^ 24)) x
stands_by s e f g = rw (← e, ← f, g) s

pub fives-below : {r v : Limbs} → Fives r v → Below (2 ^ 26 + 2 ^ 20) r → Below (2 ^ 29) v
fives-below f b =
    record {
      b0 = omega (arith, f.f0, b.b0);
      b1 = omega (arith, f.f1, b.b1);
      b2 = omega (arith, f.f2, b.b2);
      b3 = omega (arith, f.f3, b.b3);
      b4 = omega (arith, f.f4, b.b4);
    }

-- a joins the first of four blocks
pub begun : {a n x : Limbs} (m w : List ℕ) {v : List ℕ} → ((j : ℕ) → j < 4 → Holds (block_at m (16 * j)) (lane_of w j)) → Below (2 ^ 26) a → n ≡ lane_of w 0
    → Sums a n x → LanePut 0 x w v → Blocks a m v
begun {a} {n} {x} m w {v} holds small e s put =
    let n-small : Below (2 ^ 26) n = rw e (holds 0 (lit< tt)).small in
    let n-whole : value n ≡ block_at m 0 = ap value e ∙ (holds 0 (lit< tt)).whole in
    let past : (l : ℕ) → 0 < l → l < 4 → lane_of v l ≡ lane_of w l = λ l h k. put.others l k (λ z. omega arith) in
    record {
      fits =
          record {
            at =
                λ l k. ⊎_elim (λ t. rw (past l (ltb-true 0 l t) k) (wider (lit≤ tt) (holds l k).small))
                (λ t. let z : l ≡ 0 = omega (arith, ltb-false 0 l t) in
                rw (z, put.here) (sums_below (lit≤ tt) small n-small s))
                (told (ltb 0 l));
          };
      zeroth = ap value put.here ∙ sums_value s ∙ ap (λ (z : ℕ). value a + z) n-whole;
      rest = λ l h k. ap value (past l h k) ∙ (holds l k).whole;
    }
