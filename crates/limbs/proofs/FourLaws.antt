-- Four turns at once: each lane takes every fourth block and the fourth power of r.
use mathlib.Core.Path.{◌≡◌, ap, sym, ◌∙◌}
use Prim.Native.Nat.{ℕ, ◌+◌, ◌*◌, ◌/◌, ◌%◌}
use native.Mathlib.Nat.{mod-add-div}
use native.Mathlib.Omega.{arith}
use Rattle.limbs.specs.Lanes.{sum_by_powers}
use Rattle.limbs.proofs.Field.{gone, mod_in}

module _ (B P : ℕ) (wraps : B * B * B * B * B ≡ P + 5) where
  -- a remainder inside a sum and a product may go
  out : (x b r k : ℕ) → (x % P * r + b) * k % P ≡ (x * r + b) * k % P
  out x b r k = sym (gone B P wraps ((x * r + b) * k) ((x % P * r + b) * k) (x / P * r * k) (omega (arith, ap (λ (z : ℕ). z * r * k) (mod-add-div x P))))

  -- four turns in a row
  pub four-turns : (r x m0 m1 m2 m3 : ℕ)
      → ((((x + m0) * r % P + m1) * r % P + m2) * r % P + m3) * r % P ≡ (x * (r * r * r * r) + sum_by_powers r m0 m1 m2 m3) % P
  four-turns r x m0 m1 m2 m3 =
      let a = (x + m0) * r in
      let b = (a % P + m1) * r in
      let c = (b % P + m2) * r in
      let e3 : (c % P + m3) * r % P ≡ (c + m3) * r % P = sym (mod_in B P wraps c m3 r) in
      let e2 : (c + m3) * r % P ≡ (b * r + (m2 * r + m3)) * r % P = ap (λ (z : ℕ). z % P) (omega arith) ∙ out b (m2 * r + m3) r r ∙ ap (λ (z : ℕ). z % P) (omega arith) in
      let e1 : (b * r + (m2 * r + m3)) * r % P ≡ (a * (r * r) + (m1 * (r * r) + m2 * r + m3)) * r % P =
      ap (λ (z : ℕ). z % P) (omega arith) ∙ out a (m1 * (r * r) + m2 * r + m3) (r * r) r ∙ ap (λ (z : ℕ). z % P) (omega arith) in
      e3 ∙ e2 ∙ e1 ∙ ap (λ (z : ℕ). z % P) (omega arith)

  -- a remainder times k in a sum may go
  pub freed : (x k b : ℕ) → (x % P * k + b) % P ≡ (x * k + b) % P
  freed x k b = ap (λ (z : ℕ). z % P) (omega arith) ∙ out x b k 1 ∙ ap (λ (z : ℕ). z % P) (omega arith)

  -- equal remainders give equal remainders
  swap : (g h k b : ℕ) → g % P ≡ h % P → (g * k + b) % P ≡ (h * k + b) % P
  swap g h k b e = sym (freed g k b) ∙ ap (λ (z : ℕ). (z * k + b) % P) e ∙ freed h k b

  pub more : (g h b : ℕ) → g % P ≡ h % P → (g + b) % P ≡ (h + b) % P
  more g h b e = ap (λ (z : ℕ). z % P) (omega arith) ∙ swap g h 1 b e ∙ ap (λ (z : ℕ). z % P) (omega arith)

  -- one lane of four by another that has the same remainder
  module _ (r : ℕ) where
    lanes_swap : (g0 g1 g2 g3 h0 h1 h2 h3 : ℕ) → g0 % P ≡ h0 % P → g1 % P ≡ h1 % P → g2 % P ≡ h2 % P → g3 % P ≡ h3 % P → sum_by_powers r g0 g1 g2 g3 % P ≡ sum_by_powers r h0 h1 h2 h3 % P
    lanes_swap g0 g1 g2 g3 h0 h1 h2 h3 k0 k1 k2 k3 =
        let R = r * r * r * r in
        let s0 : sum_by_powers r g0 g1 g2 g3 % P ≡ sum_by_powers r h0 g1 g2 g3 % P =
        ap (λ (z : ℕ). z % P) (omega arith) ∙ swap g0 h0 R (g1 * (r * r * r) + g2 * (r * r) + g3 * r) k0 ∙ ap (λ (z : ℕ). z % P) (omega arith) in
        let s1 : sum_by_powers r h0 g1 g2 g3 % P ≡ sum_by_powers r h0 h1 g2 g3 % P =
        ap (λ (z : ℕ). z % P) (omega arith) ∙ swap g1 h1 (r * r * r) (h0 * R + g2 * (r * r) + g3 * r) k1 ∙ ap (λ (z : ℕ). z % P) (omega arith) in
        let s2 : sum_by_powers r h0 h1 g2 g3 % P ≡ sum_by_powers r h0 h1 h2 g3 % P =
        ap (λ (z : ℕ). z % P) (omega arith) ∙ swap g2 h2 (r * r) (h0 * R + h1 * (r * r * r) + g3 * r) k2 ∙ ap (λ (z : ℕ). z % P) (omega arith) in
        let s3 : sum_by_powers r h0 h1 h2 g3 % P ≡ sum_by_powers r h0 h1 h2 h3 % P =
        ap (λ (z : ℕ). z % P) (omega arith) ∙ swap g3 h3 r (h0 * R + h1 * (r * r * r) + h2 * (r * r)) k3 ∙ ap (λ (z : ℕ). z % P) (omega arith) in
        s0 ∙ s1 ∙ s2 ∙ s3

  -- q is the fourth power of r, the lanes h stand for x, and g is what q and the blocks m make of each
  pub lanes_on : (r q x h0 h1 h2 h3 g0 g1 g2 g3 m0 m1 m2 m3 : ℕ) → q % P ≡ r * r * r * r % P → sum_by_powers r h0 h1 h2 h3 % P ≡ x
      → g0 % P ≡ (h0 * q + m0) % P → g1 % P ≡ (h1 * q + m1) % P → g2 % P ≡ (h2 * q + m2) % P → g3 % P ≡ (h3 * q + m3) % P
      → sum_by_powers r g0 g1 g2 g3 % P ≡ (x * (r * r * r * r) + sum_by_powers r m0 m1 m2 m3) % P
  lanes_on r q x h0 h1 h2 h3 g0 g1 g2 g3 m0 m1 m2 m3 power e k0 k1 k2 k3 =
      let R = r * r * r * r in
      let by : (h m : ℕ) → (h * q + m) % P ≡ (h * R + m) % P =
      λ h m. ap (λ (z : ℕ). z % P) (omega arith) ∙ swap q R h m power ∙ ap (λ (z : ℕ). z % P) (omega arith) in
      let H = sum_by_powers r h0 h1 h2 h3 in
      let M = sum_by_powers r m0 m1 m2 m3 in
      let s : sum_by_powers r g0 g1 g2 g3 % P ≡ sum_by_powers r (h0 * R + m0) (h1 * R + m1) (h2 * R + m2) (h3 * R + m3) % P =
      lanes_swap r g0 g1 g2 g3 (h0 * R + m0) (h1 * R + m1) (h2 * R + m2) (h3 * R + m3) (k0 ∙ by h0 m0) (k1 ∙ by h1 m1) (k2 ∙ by h2 m2) (k3 ∙ by h3 m3) in
      let t : sum_by_powers r (h0 * R + m0) (h1 * R + m1) (h2 * R + m2) (h3 * R + m3) % P ≡ (H * R + M) % P = ap (λ (z : ℕ). z % P) (omega arith) in
      s ∙ t ∙ sym (freed H R M) ∙ ap (λ (z : ℕ). (z * R + M) % P) e
