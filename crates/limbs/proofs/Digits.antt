-- The digits of a number are its limbs, and no other limbs below 2^26 are.
use mathlib.Core.Path.{◌≡◌, refl, ap, sym, ◌∙◌}
use Prim.Native.Nat.{ℕ, ◌+◌, ◌*◌, ◌/◌, ◌%◌, ◌^◌, ◌<◌, ◌≤◌}
use native.Mathlib.Nat.{mod-eq_of_lt, mod-lt, mod-add-div, add-mul-mod_self_left, add-mul-div_left, div-eq_of_lt, zero-add, div-div-eq-div-mul, div-one, div-lt_iff_lt-mul, lt_trans, lt_of_le_of_lt, le_of_lt}
use native.Mathlib.Omega.{arith}
use lib.Dec.{lit<}
use Rattle.limbs.specs.declared.Limbs.{Limbs}
use Rattle.limbs.specs.Limbs.{at, value, limbs_of, p}
use Rattle.limbs.specs.Bounds.{Below, Reduced}
use Rattle.limbs.proofs.Field.{grows}

-- 2^130 is p + 5
pub wraps : 2 ^ 26 * 2 ^ 26 * 2 ^ 26 * 2 ^ 26 * 2 ^ 26 ≡ p + 5
unfolding p
wraps = refl

module _ (B : ℕ) (pos : 0 < B) where
  low : {a : ℕ} (y : ℕ) → a < B → (a + B * y) % B ≡ a
  low {a} y h = add-mul-mod_self_left a B y ∙ mod-eq_of_lt h

  high : {a : ℕ} (y : ℕ) → a < B → (a + B * y) / B ≡ y
  high {a} y h = add-mul-div_left a y pos ∙ ap (λ (z : ℕ). z + y) (div-eq_of_lt h) ∙ zero-add y

  -- the digits by repeated division
  digits-at : (a b c d e : ℕ) → a < B → b < B → c < B → d < B → e < B
      → (at B a b c d e % B ≡ a) × (at B a b c d e / B % B ≡ b) × (at B a b c d e / B / B % B ≡ c) × (at B a b c d e / B / B / B % B ≡ d)
      × (at B a b c d e / B / B / B / B % B ≡ e)
  unfolding at
  digits-at a b c d e ha hb hc hd he =
      let y1 = b + B * (c + B * (d + B * e)) in
      let y2 = c + B * (d + B * e) in
      let y3 = d + B * e in (
        low y1 ha,
        rw (high y1 ha) (low y2 hb),
        rw (high y1 ha, high y2 hb) (low y3 hc),
        rw (high y1 ha, high y2 hb, high y3 hc) (low e hd),
        rw (high y1 ha, high y2 hb, high y3 hc, high e hd) (mod-eq_of_lt he),
      )

  -- a number below B^5 is put together from its digits
  at-digits : (x : ℕ) → x / B / B / B / B < B → at B (x % B) (x / B % B) (x / B / B % B) (x / B / B / B % B) (x / B / B / B / B % B) ≡ x
  unfolding at
  at-digits x h =
      rw (
        mod-eq_of_lt h,
        mod-add-div (x / B / B / B) B,
        mod-add-div (x / B / B) B,
        mod-add-div (x / B) B,
        mod-add-div x B,
      )

div2 : (x : ℕ) → x / 2 ^ (26 * 2) ≡ x / 2 ^ 26 / 2 ^ 26
div2 x = sym (div-div-eq-div-mul x (2 ^ 26) (2 ^ 26))

div3 : (x : ℕ) → x / 2 ^ (26 * 3) ≡ x / 2 ^ 26 / 2 ^ 26 / 2 ^ 26
div3 x = sym (rw (div-div-eq-div-mul x (2 ^ 26) (2 ^ 26)) (div-div-eq-div-mul x (2 ^ 52) (2 ^ 26)))

div4 : (x : ℕ) → x / 2 ^ (26 * 4) ≡ x / 2 ^ 26 / 2 ^ 26 / 2 ^ 26 / 2 ^ 26
div4 x = sym (rw (sym (div3 x)) (div-div-eq-div-mul x (2 ^ 78) (2 ^ 26)))

-- limbs below 2^26 are the digits of their number
pub held : (r : Limbs) (x : ℕ) → value r ≡ x → Below (2 ^ 26) r → r ≡ limbs_of x
unfolding limbs_of
held r x e b =
    let d = digits-at (2 ^ 26) (lit< tt) r.l0 r.l1 r.l2 r.l3 r.l4 b.b0 b.b1 b.b2 b.b3 b.b4 in
    rw (← e, div-one, div2, div3, div4, d.0, d.1, d.2, d.3, d.4)

pub limbs_below : (x : ℕ) → Below (2 ^ 26) (limbs_of x)
unfolding limbs_of
limbs_below x =
    let few : (y : ℕ) → y % 2 ^ 26 < 2 ^ 26 = λ y. mod-lt y (lit< tt) in
    record { b0 = few (x / 2 ^ (26 * 0)); b1 = few (x / 2 ^ (26 * 1)); b2 = few (x / 2 ^ (26 * 2)); b3 = few (x / 2 ^ (26 * 3)); b4 = few (x / 2 ^ (26 * 4)) }

-- a number that fits is read back
pub value_limbs : (x : ℕ) → x < p → value (limbs_of x) ≡ x
unfolding limbs_of p
value_limbs x h = rw (div-one, div2, div3, div4) (at-digits (2 ^ 26) (lit< tt) x (rw (← div4 x) ((div-lt_iff_lt-mul {k = 2 ^ 104} (lit< tt)).1 (lt_trans h (lit< tt)))))

pub limbs_reduced : (x : ℕ) → x < p → Reduced (limbs_of x)
limbs_reduced x h = record { small = limbs_below x; under = rw (value_limbs x h) h }

-- limbs a little too large make less than two p
pub loose-under : (x : Limbs) → Below (2 ^ 26 + 2 ^ 20) x → value x < p + p
unfolding p at
loose-under x b = lt_of_le_of_lt (grows (2 ^ 26) (le_of_lt b.b0) (le_of_lt b.b1) (le_of_lt b.b2) (le_of_lt b.b3) (le_of_lt b.b4)) (lit< tt)

-- digits make less than 2^130
pub digits-under : (x : Limbs) → Below (2 ^ 26) x → value x < p + 5
unfolding p at
digits-under x b =
    lt_of_le_of_lt (grows (2 ^ 26) (less b.b0) (less b.b1) (less b.b2) (less b.b3) (less b.b4)) (lit< tt)
  where
    less : {a : ℕ} → a < 2 ^ 26 → a ≤ 67108863
    less h = omega arith
