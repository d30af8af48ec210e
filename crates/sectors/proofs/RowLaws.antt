-- Sectors in a row through any function of number and sector: one sector a turn, and a part of the row by its own sectors.
use mathlib.Core.Path.{◌≡◌, refl, ap, ap₂, sym, ◌∙◌}
use mathlib.Core.List.{List, ◌++◌}
use Prim.Native.Nat.{ℕ, zero, suc, ◌+◌, ◌-◌, ◌*◌, ◌≤◌}
use native.Mathlib.Omega.{arith}
use borrow.Rule.Slice.PartMut.{put_mid}
use lib.ListN.{length, take, drop}
use lib.Seq.{sets, drop-drop, take-take, take-append-add, drop-append-add}
use Rattle.base.specs.Lists.{part}
use Rattle.base.proofs.PartLaws.{back, part-front}
use Rattle.xts.specs.Xts.{over_sectors}
use Rattle.xts.proofs.Rows as Rows
use Rattle.xts.proofs.SectorCode.{sectors}

-- a sector lent from place at on came back as v
pub put_back : (at : ℕ) (d v : List ℕ) → at + 512 ≤ length d → length v ≡ 512 → put_mid at (at + 512 - at) d v ≡ sets d at v
put_back at d v room reach =
    let size : at + 512 - at ≡ 512 = omega arith in
    rw size (back at 512 d v room reach)

module _ (f : ℕ → List ℕ → List ℕ) (long : (i : ℕ) (d : List ℕ) → length (f i d) ≡ 512) where
  pub long-row : (n i : ℕ) (d : List ℕ) → length (over_sectors f n i d) ≡ 512 * n
  long-row = Rows.long (sectors f) long

  -- the end of a row, and its beginning
  row_drop : (j n i : ℕ) (d : List ℕ) → j ≤ n → drop (512 * j) (over_sectors f n i d) ≡ over_sectors f (n - j) (i + j) (drop (512 * j) d)
  unfolding over_sectors
  row_drop zero n i d h =
      let a : n - 0 ≡ n = omega arith in
      let b : i + 0 ≡ i = omega arith in
      rw (a, b) refl
  row_drop (suc j) zero i d h = absurd (omega arith)
  row_drop (suc j) (suc n) i d h =
      let x = f i (take 512 d) in
      let rest = over_sectors f n (suc i) (drop 512 d) in
      let a : 512 * suc j ≡ length x + 512 * j = rw (long i (take 512 d)) (omega arith) in
      let b : 512 * suc j ≡ 512 + 512 * j = omega arith in
      let c : suc n - suc j ≡ n - j = omega arith in
      let e : suc i + j ≡ i + suc j = omega arith in
      ap (λ (m : ℕ). drop m (x ++ rest)) a
      ∙ drop-append-add x rest (512 * j)
      ∙ row_drop j n (suc i) (drop 512 d) (omega arith)
      ∙ ap₂ (λ (m : ℕ) (y : List ℕ). over_sectors f (n - j) m y) e (drop-drop (512 * j) 512 d ∙ ap (λ (m : ℕ). drop m d) (sym b))
      ∙ ap (λ (m : ℕ). over_sectors f m (i + suc j) (drop (512 * suc j) d)) (sym c)

  row-take : (k n i : ℕ) (d : List ℕ) → k ≤ n → take (512 * k) (over_sectors f n i d) ≡ over_sectors f k i (take (512 * k) d)
  unfolding over_sectors
  row-take zero n i d h = refl
  row-take (suc k) zero i d h = absurd (omega arith)
  row-take (suc k) (suc n) i d h =
      let x = f i (take 512 d) in
      let rest = over_sectors f n (suc i) (drop 512 d) in
      let a : 512 * suc k ≡ length x + 512 * k = rw (long i (take 512 d)) (omega arith) in
      let b : 512 * suc k ≡ 512 + 512 * k = omega arith in
      let one : take 512 d ≡ take 512 (take (512 * suc k) d) = sym (take-take 512 (512 * suc k) d (omega arith)) in
      let more : take (512 * k) (drop 512 d) ≡ drop 512 (take (512 * suc k) d) = part-front 512 (512 * k) d ∙ ap (λ (m : ℕ). drop 512 (take m d)) (sym b) in
      ap (λ (m : ℕ). take m (x ++ rest)) a
      ∙ take-append-add x rest (512 * k)
      ∙ ap (λ (y : List ℕ). x ++ y) (row-take k n (suc i) (drop 512 d) (omega arith))
      ∙ ap₂ (λ (y z : List ℕ). f i y ++ over_sectors f k (suc i) z) one more

  -- a part of the row is the row of its own sectors, from their number on
  pub row-part : (n j k i : ℕ) (d : List ℕ) → j + k ≤ n
      → part (512 * j) (512 * k) (over_sectors f n i d) ≡ over_sectors f k (i + j) (part (512 * j) (512 * k) d)
  row-part n j k i d h =
      ap (λ (x : List ℕ). take (512 * k) x) (row_drop j n i d (omega arith)) ∙ row-take k (n - j) (i + j) (drop (512 * j) d) (omega arith)
