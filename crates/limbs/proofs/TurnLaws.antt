-- Laws of the turns: what one turn adds, and a loop of turns from the front.
use mathlib.Core.Path.{◌≡◌, refl, ap, sym, ◌∙◌}
use mathlib.Core.List.{List, [], ◌∷◌, ◌++◌}
use Prim.Native.Nat.{ℕ, zero, suc, ◌+◌, ◌-◌, ◌*◌, ◌%◌, ◌^◌, ◌<◌, ◌≤◌}
use native.Mathlib.Nat.{mul_comm, zero-add, add-zero, sub-zero, mod-eq_of_lt, mod-lt, sub-eq-zero_of_le}
use native.Mathlib.Omega.{arith}
use lib.Dec.{lit<}
use lib.ListN.{length, take, drop, length-drop}
use lib.Seq.{drop-drop, take_all, length-take-le}
use Rattle.base.specs.Lists.{part}
use Rattle.words.specs.Le.{num}
use Rattle.limbs.specs.declared.Limbs.{Limbs}
use Rattle.limbs.specs.Limbs.{at, value, p}
use Rattle.limbs.specs.Bounds.{Below, Sums, Fives, step_by, steps_by}
use Rattle.limbs.specs.Turns.{turn, turns}
use Rattle.limbs.proofs.Field.{plus, mod_in, product}
use Rattle.limbs.proofs.Digits.{wraps}
use Rattle.words.proofs.LeLaws.{num-append}

pub wider : {m k : ℕ} {x : Limbs} → m ≤ k → Below m x → Below k x
wider h b = record { b0 = omega arith; b1 = omega arith; b2 = omega arith; b3 = omega arith; b4 = omega arith }

pub sums_value : {a b r : Limbs} → Sums a b r → value r ≡ value a + value b
sums_value {a} {b} {r} s =
    rw (s.s0, s.s1, s.s2, s.s3, s.s4) (sym (plus (2 ^ 26) a.l0 a.l1 a.l2 a.l3 a.l4 b.l0 b.l1 b.l2 b.l3 b.l4))

pub sums_below : {m k n : ℕ} {a b r : Limbs} → m + k ≤ n → Below m a → Below k b → Sums a b r → Below n r
sums_below h x y s =
    record {
      b0 = omega (arith, s.s0, x.b0, y.b0);
      b1 = omega (arith, s.s1, x.b1, y.b1);
      b2 = omega (arith, s.s2, x.b2, y.b2);
      b3 = omega (arith, s.s3, x.b3, y.b3);
      b4 = omega (arith, s.s4, x.b4, y.b4);
    }

-- h times r by the five sums of products; v has what leaves the top
pub products : (h : Limbs) {r v : Limbs} {d0 d1 d2 d3 d4 : ℕ} → Fives r v
    → d0 ≡ h.l0 * r.l0 + h.l1 * v.l4 + h.l2 * v.l3 + h.l3 * v.l2 + h.l4 * v.l1
    → d1 ≡ h.l0 * r.l1 + h.l1 * r.l0 + h.l2 * v.l4 + h.l3 * v.l3 + h.l4 * v.l2
    → d2 ≡ h.l0 * r.l2 + h.l1 * r.l1 + h.l2 * r.l0 + h.l3 * v.l4 + h.l4 * v.l3
    → d3 ≡ h.l0 * r.l3 + h.l1 * r.l2 + h.l2 * r.l1 + h.l3 * r.l0 + h.l4 * v.l4
    → d4 ≡ h.l0 * r.l4 + h.l1 * r.l3 + h.l2 * r.l2 + h.l3 * r.l1 + h.l4 * r.l0
    → at (2 ^ 26) d0 d1 d2 d3 d4 % p ≡ value h * value r % p
products h {r} {v} {d0} {d1} {d2} {d3} {d4} f e0 e1 e2 e3 e4 =
    product (2 ^ 26) p wraps h.l0 h.l1 h.l2 h.l3 h.l4 r.l0 r.l1 r.l2 r.l3 r.l4 d0 d1 d2 d3 d4
    (rw (f.f1, f.f2, f.f3, f.f4) at e0) (rw (f.f2, f.f3, f.f4) at e1) (rw (f.f3, f.f4) at e2) (rw f.f4 at e3) e4

-- what one turn leaves is below p
pub turn-lt : (r a : ℕ) (b : List ℕ) → turn r a b < p
unfolding turn p
turn-lt r a b = mod-lt (r * (a + num (b ++ (1 ∷ [])))) (lit< tt)

-- the appended 1 stands at bit 128, which is bit 24 of the highest limb
num-one : (b : List ℕ) → length b ≡ 16 → num (b ++ (1 ∷ [])) ≡ num b + 2 ^ 104 * 2 ^ 24
unfolding num
num-one b e = num-append b (1 ∷ []) ∙ rw e

-- one turn, from a number that may not be reduced
step_is : (top r h t : ℕ) (b : List ℕ) → t % p ≡ (h + (num b + 2 ^ 104 * top)) * r % p → t % p ≡ step_by top r (h % p) b
unfolding step_by
step_is top r h t b f = f ∙ mod_in (2 ^ 26) p wraps h (num b + 2 ^ 104 * top) r ∙ rw (mul_comm r (h % p + (num b + 2 ^ 104 * top)))

-- before the first turn
pub steps_none : (top n r a : ℕ) (m : List ℕ) → steps_by top (n - 0) r a (drop (16 * 0) m) ≡ steps_by top n r a m
steps_none top n r a m = rw (sub-zero n)

-- the next turn
pub steps_more : (top n i r h t : ℕ) (m : List ℕ) {T : ℕ} → i < n → t % p ≡ (h + (num (part (16 * i) 16 m) + 2 ^ 104 * top)) * r % p
    → steps_by top (n - i) r (h % p) (drop (16 * i) m) ≡ T → steps_by top (n - (i + 1)) r (t % p) (drop (16 * (i + 1)) m) ≡ T
unfolding steps_by
steps_more top n i r h t m l e f =
    let left : n - i ≡ suc (n - (i + 1)) = omega arith in
    let next : 16 * i + 16 ≡ 16 * (i + 1) = omega arith in
    rw (step_is top r h t (part (16 * i) 16 m) e, ← next, ← drop-drop 16 (16 * i) m) (rw left at f)

-- after the last turn
pub steps_done : (top n i r a : ℕ) (m : List ℕ) {T : ℕ} → n ≤ i → steps_by top (n - i) r a m ≡ T → a ≡ T
unfolding steps_by
steps_done top n i r a m h e = rw (sub-eq-zero_of_le h) at e

-- turns after turns
pub steps_append : (top k n r a : ℕ) (m : List ℕ) → steps_by top (k + n) r a m ≡ steps_by top n r (steps_by top k r a m) (drop (16 * k) m)
unfolding steps_by
steps_append top zero n r a m = rw (zero-add n)
steps_append top (suc k) n r a m =
    let e : suc k + n ≡ suc (k + n) = omega arith in
    let f : 16 * suc k ≡ 16 + 16 * k = omega arith in
    rw (e, f, ← drop-drop (16 * k) 16 m) (steps_append top k n r (step_by top r a (take 16 m)) (drop 16 m))

-- all from e on
pub rest_is : (e f : ℕ) (m : List ℕ) → e ≡ f → take (length m - e) (drop e m) ≡ drop f m
rest_is e f m same = take_all (length m - e) (drop e m) (rw (length-drop e m) (omega arith)) ∙ ap (λ (z : ℕ). drop z m) same

-- k turns, and the others with what is behind their blocks
pub steps_both : (top k n r a h t : ℕ) (m l : List ℕ) → k ≤ n → l ≡ drop (16 * k) m → h % p ≡ steps_by top k r a m → t % p ≡ steps_by top (n - k) r (h % p) l
    → t % p ≡ steps_by top n r a m
steps_both top k n r a h t m l less e f g =
    let all : k + (n - k) ≡ n = omega arith in
    g ∙ rw (e, f) (sym (steps_append top k (n - k) r a m)) ∙ ap (λ (z : ℕ). steps_by top z r a m) all

-- with the 1 of whole blocks these are the turns
steps_turns : (n r a : ℕ) (m : List ℕ) → 16 * n ≤ length m → steps_by (2 ^ 24) n r a m ≡ turns n r a m
unfolding steps_by step_by turns turn
steps_turns zero r a m h = refl
steps_turns (suc n) r a m h =
    rw (num-one (take 16 m) (length-take-le 16 m (omega arith)))
    (steps_turns n r (r * (a + (num (take 16 m) + 2 ^ 104 * 2 ^ 24)) % p) (drop 16 m) (rw (length-drop 16 m) (omega arith)))

pub blocks_are : (n r a : ℕ) (m : List ℕ) → a < p → 16 * n ≤ length m → steps_by (2 ^ 24) n r (a % p) m ≡ turns n r a m
blocks_are n r a m h l = rw (mod-eq_of_lt h) (steps_turns n r a m l)

-- the turn of a last block that has its 1 already
pub last_is : (r a : ℕ) (b : List ℕ) → a < p → length b ≡ 16 → steps_by 0 1 r (a % p) b ≡ r * (a + num b) % p
unfolding steps_by step_by
last_is r a b h e = rw (mod-eq_of_lt h, take_all 16 b (omega arith), add-zero (num b))
