-- Identities of five digits to any base B, and of a modulus P with B^5 = P + 5.
use mathlib.Core.Path.{◌≡◌, ap, sym, ◌∙◌}
use Prim.Native.Nat.{ℕ, zero, suc, ◌+◌, ◌*◌, ◌/◌, ◌%◌, ◌<◌, ◌≤◌}
use native.Mathlib.Nat.{add-le-add, mul-le-mul_left, mul-suc, add-mul-mod_self_left, mod-eq_of_lt, mod-add-div}
use native.Mathlib.Omega.{arith}
use Rattle.limbs.specs.Limbs.{at}

module _ (B : ℕ) where
  pub plus : (a b c d e a' b' c' d' e' : ℕ) → at B a b c d e + at B a' b' c' d' e' ≡ at B (a + a') (b + b') (c + c') (d + d') (e + e')
  unfolding at
  plus a b c d e a' b' c' d' e' = omega arith

  scale : (a b c d e x : ℕ) → at B a b c d e * x ≡ at B (a * x) (b * x) (c * x) (d * x) (e * x)
  unfolding at
  scale a b c d e x = omega arith

  horner : (h r0 r1 r2 r3 r4 : ℕ) → h * at B r0 r1 r2 r3 r4 ≡ B * (B * (B * (B * (h * r4) + h * r3) + h * r2) + h * r1) + h * r0
  unfolding at
  horner h r0 r1 r2 r3 r4 = omega arith

  up : {a a' y y' : ℕ} → a ≤ a' → y ≤ y' → a + B * y ≤ a' + B * y'
  up h k = add-le-add h (mul-le-mul_left B k)

  -- larger digits, a larger number
  pub grows : {a b c d e a' b' c' d' e' : ℕ} → a ≤ a' → b ≤ b' → c ≤ c' → d ≤ d' → e ≤ e' → at B a b c d e ≤ at B a' b' c' d' e'
  unfolding at
  grows ha hb hc hd he = up ha (up hb (up hc (up hd he)))

  carry0 : (x q m y : ℕ) → x ≡ q * B + m → x + B * y ≡ m + B * (y + q)
  carry0 x q m y e = omega arith

  carry1 : (x q q' m y : ℕ) → x + q ≡ q' * B + m → x + B * y + q ≡ m + B * (y + q')
  carry1 x q q' m y e = omega arith

module _ (B P : ℕ) (wraps : B * B * B * B * B ≡ P + 5) where
  move : (a b c d e : ℕ) → B * at B a b c d e ≡ at B (5 * e) a b c d + P * e
  unfolding at
  move a b c d e = omega (arith, ap (λ (z : ℕ). z * e) wraps)

  -- the digits a times B, and h times x added to them
  step : (a b c d e h0 h1 h2 h3 h4 x : ℕ)
      → B * at B a b c d e + at B h0 h1 h2 h3 h4 * x ≡ at B (5 * e + h0 * x) (a + h1 * x) (b + h2 * x) (c + h3 * x) (d + h4 * x) + P * e
  step a b c d e h0 h1 h2 h3 h4 x =
      omega (arith, move a b c d e, scale B h0 h1 h2 h3 h4 x, plus B (5 * e) a b c d (h0 * x) (h1 * x) (h2 * x) (h3 * x) (h4 * x))

  lift : (X W W' y m k : ℕ) → X ≡ W + P * m → B * W + y ≡ W' + P * k → B * X + y ≡ W' + P * (k + B * m)
  lift X W W' y m k e f = omega (arith, ap (λ (z : ℕ). B * z) e)

  -- carried from digit to digit; what leaves the top is a multiple of B^5
  pub rippled : (a b c d e x a' b' c' d' e' q0 q1 q2 q3 q4 : ℕ) → a + x ≡ q0 * B + a' → b + q0 ≡ q1 * B + b' → c + q1 ≡ q2 * B + c' → d + q2 ≡ q3 * B + d'
      → e + q3 ≡ q4 * B + e' → at B a b c d e + x ≡ at B a' b' c' d' e' + (P + 5) * q4
  unfolding at
  rippled a b c d e x a' b' c' d' e' q0 q1 q2 q3 q4 h0 h1 h2 h3 h4 =
      carry1 B a x q0 a' (b + B * (c + B * (d + B * e))) h0
      ∙ ap (λ (z : ℕ). a' + B * z) (carry1 B b q0 q1 b' (c + B * (d + B * e)) h1)
      ∙ ap (λ (z : ℕ). a' + B * (b' + B * z)) (carry1 B c q1 q2 c' (d + B * e) h2)
      ∙ ap (λ (z : ℕ). a' + B * (b' + B * (c' + B * z))) (carry1 B d q2 q3 d' e h3)
      ∙ ap (λ (z : ℕ). a' + B * (b' + B * (c' + B * (d' + B * z)))) h4
      ∙ omega (arith, ap (λ (z : ℕ). z * q4) wraps)

  pub gone : (x y k : ℕ) → x ≡ y + P * k → x % P ≡ y % P
  gone x y k e = ap (λ (z : ℕ). z % P) e ∙ add-mul-mod_self_left y P k

  back : (a b c d e a' u q : ℕ) → a + 5 * q ≡ u * B + a'
      → a + B * (b + B * (c + B * (d + B * (e + B * q)))) ≡ a' + B * (b + u + B * (c + B * (d + B * e))) + P * q
  back a b c d e a' u q h = omega (arith, ap (λ (z : ℕ). z * q) wraps)

  -- carried in two chains; what leaves the top comes back five times at the bottom
  pub carried : (a b c d e a' b' c' d' e' q0 q1 q2 q3 q4 a'' u d'' w : ℕ) → a ≡ q0 * B + a' → d ≡ q3 * B + d' → b + q0 ≡ q1 * B + b' → e + q3 ≡ q4 * B + e'
      → c + q1 ≡ q2 * B + c' → a' + 5 * q4 ≡ u * B + a'' → d' + q2 ≡ w * B + d'' → at B a'' (b' + u) c' d'' (e' + w) % P ≡ at B a b c d e % P
  unfolding at
  carried a b c d e a' b' c' d' e' q0 q1 q2 q3 q4 a'' u d'' w h0 h3 h1 h4 h2 hu hw =
      let y3 = d + B * e in
      let y2 = c + B * y3 in
      let y1 = b + B * y2 in
      let s3 : y3 + q2 ≡ d'' + B * (e + q3 + w) = ap (λ (z : ℕ). z + q2) (carry0 B d q3 d' e h3) ∙ carry1 B d' q2 w d'' (e + q3) hw in
      let s4 : e + q3 + w ≡ e' + w + B * q4 = omega arith in
      let t0 : a + B * y1 ≡ a' + B * (b' + B * (c' + B * (d'' + B * (e' + w + B * q4)))) =
      carry0 B a q0 a' y1 h0
      ∙ ap (λ (z : ℕ). a' + B * z) (carry1 B b q0 q1 b' y2 h1)
      ∙ ap (λ (z : ℕ). a' + B * (b' + B * z)) (carry1 B c q1 q2 c' y3 h2)
      ∙ ap (λ (z : ℕ). a' + B * (b' + B * (c' + B * z))) s3
      ∙ ap (λ (z : ℕ). a' + B * (b' + B * (c' + B * (d'' + B * z)))) s4 in
      sym
      (gone (a + B * (b + B * (c + B * (d + B * e)))) (a'' + B * (b' + u + B * (c' + B * (d'' + B * (e' + w))))) q4
      (t0 ∙ back a' b' c' d'' (e' + w) a'' u q4 hu))

  -- the sum may be reduced before the product
  pub mod_in : (x b r : ℕ) → (x + b) * r % P ≡ (x % P + b) * r % P
  mod_in x b r = gone ((x + b) * r) ((x % P + b) * r) (x / P * r) (omega (arith, ap (λ (z : ℕ). z * r) (mod-add-div x P)))

  -- the product of two numbers, by the five sums of products
  pub product : (h0 h1 h2 h3 h4 r0 r1 r2 r3 r4 d0 d1 d2 d3 d4 : ℕ)
      → d0 ≡ h0 * r0 + h1 * (5 * r4) + h2 * (5 * r3) + h3 * (5 * r2) + h4 * (5 * r1)
      → d1 ≡ h0 * r1 + h1 * r0 + h2 * (5 * r4) + h3 * (5 * r3) + h4 * (5 * r2)
      → d2 ≡ h0 * r2 + h1 * r1 + h2 * r0 + h3 * (5 * r4) + h4 * (5 * r3)
      → d3 ≡ h0 * r3 + h1 * r2 + h2 * r1 + h3 * r0 + h4 * (5 * r4)
      → d4 ≡ h0 * r4 + h1 * r3 + h2 * r2 + h3 * r1 + h4 * r0
      → at B d0 d1 d2 d3 d4 % P ≡ at B h0 h1 h2 h3 h4 * at B r0 r1 r2 r3 r4 % P
  product h0 h1 h2 h3 h4 r0 r1 r2 r3 r4 d0 d1 d2 d3 d4 e0 e1 e2 e3 e4 =
      let H = at B h0 h1 h2 h3 h4 in
      let a3 : ℕ = 5 * (h4 * r4) + h0 * r3 in
      let b3 : ℕ = h0 * r4 + h1 * r3 in
      let c3 : ℕ = h1 * r4 + h2 * r3 in
      let d3' : ℕ = h2 * r4 + h3 * r3 in
      let e3' : ℕ = h3 * r4 + h4 * r3 in
      let a2 : ℕ = 5 * e3' + h0 * r2 in
      let b2 : ℕ = a3 + h1 * r2 in
      let c2 : ℕ = b3 + h2 * r2 in
      let d2' : ℕ = c3 + h3 * r2 in
      let e2' : ℕ = d3' + h4 * r2 in
      let a1 : ℕ = 5 * e2' + h0 * r1 in
      let b1 : ℕ = a2 + h1 * r1 in
      let c1 : ℕ = b2 + h2 * r1 in
      let d1' : ℕ = c2 + h3 * r1 in
      let e1' : ℕ = d2' + h4 * r1 in
      let s4 : H * r4 ≡ at B (h0 * r4) (h1 * r4) (h2 * r4) (h3 * r4) (h4 * r4) = scale B h0 h1 h2 h3 h4 r4 in
      let s3 : B * at B (h0 * r4) (h1 * r4) (h2 * r4) (h3 * r4) (h4 * r4) + H * r3 ≡ at B a3 b3 c3 d3' e3' + P * (h4 * r4) =
      step (h0 * r4) (h1 * r4) (h2 * r4) (h3 * r4) (h4 * r4) h0 h1 h2 h3 h4 r3 in
      let s2 : B * at B a3 b3 c3 d3' e3' + H * r2 ≡ at B a2 b2 c2 d2' e2' + P * e3' = step a3 b3 c3 d3' e3' h0 h1 h2 h3 h4 r2 in
      let s1 : B * at B a2 b2 c2 d2' e2' + H * r1 ≡ at B a1 b1 c1 d1' e1' + P * e2' = step a2 b2 c2 d2' e2' h0 h1 h2 h3 h4 r1 in
      let s0 : B * at B a1 b1 c1 d1' e1' + H * r0 ≡ at B (5 * e1' + h0 * r0) (a1 + h1 * r0) (b1 + h2 * r0) (c1 + h3 * r0) (d1' + h4 * r0) + P * e1' =
      step a1 b1 c1 d1' e1' h0 h1 h2 h3 h4 r0 in
      let W4 = at B (h0 * r4) (h1 * r4) (h2 * r4) (h3 * r4) (h4 * r4) in
      let W3 = at B a3 b3 c3 d3' e3' in
      let W2 = at B a2 b2 c2 d2' e2' in
      let W1 = at B a1 b1 c1 d1' e1' in
      let W0 = at B (5 * e1' + h0 * r0) (a1 + h1 * r0) (b1 + h2 * r0) (c1 + h3 * r0) (d1' + h4 * r0) in
      let X3 = B * (H * r4) + H * r3 in
      let X2 = B * X3 + H * r2 in
      let X1 = B * X2 + H * r1 in
      let k3 = h4 * r4 + B * 0 in
      let k2 = e3' + B * k3 in
      let k1 = e2' + B * k2 in
      let k0 = e1' + B * k1 in
      let t3 : X3 ≡ W3 + P * k3 = lift (H * r4) W4 W3 (H * r3) 0 (h4 * r4) (omega (arith, s4)) s3 in
      let t2 : X2 ≡ W2 + P * k2 = lift X3 W3 W2 (H * r2) k3 e3' t3 s2 in
      let t1 : X1 ≡ W1 + P * k1 = lift X2 W2 W1 (H * r1) k2 e2' t2 s1 in
      let t0 : B * X1 + H * r0 ≡ W0 + P * k0 = lift X1 W1 W0 (H * r0) k1 e1' t1 s0 in
      let w0 : 5 * e1' + h0 * r0 ≡ d0 = omega arith in
      let w1 : a1 + h1 * r0 ≡ d1 = omega arith in
      let w2 : b1 + h2 * r0 ≡ d2 = omega arith in
      let w3 : c1 + h3 * r0 ≡ d3 = omega arith in
      let w4 : d1' + h4 * r0 ≡ d4 = omega arith in
      let same : W0 ≡ at B d0 d1 d2 d3 d4 = rw (w0, w1, w2, w3, w4) in
      sym (gone (H * at B r0 r1 r2 r3 r4) (at B d0 d1 d2 d3 d4) k0 (horner B H r0 r1 r2 r3 r4 ∙ t0 ∙ ap (λ (z : ℕ). z + P * k0) same))

  more : (x u : ℕ) → x * suc u ≡ x * u + x
  more x u = mul-suc x u

  -- the remainder of W by P, by what adding 5 shows
  pub frozen : (W L F q u : ℕ) → W + 5 ≡ L + (P + 5) * q → W + 5 * q ≡ F + (P + 5) * u → L < P + 5 → F < P + 5 → W < P + P → q ≤ 1 → F ≡ W % P
  frozen W L F zero zero e f l k w h = let z : W ≡ F = omega arith in rw (← z) (sym (mod-eq_of_lt (omega arith)))
  frozen W L F zero (suc u) e f l k w h = absurd (omega (arith, more (P + 5) u))
  frozen W L F (suc zero) zero e f l k w h = absurd (omega arith)
  frozen W L F (suc zero) (suc zero) e f l k w h = let z : W ≡ F + P * 1 = omega arith in sym (gone W F 1 z ∙ mod-eq_of_lt (omega arith))
  frozen W L F (suc zero) (suc (suc u)) e f l k w h = absurd (omega (arith, more (P + 5) (suc u), more (P + 5) u))
  frozen W L F (suc (suc q)) u e f l k w h = absurd (omega arith)
