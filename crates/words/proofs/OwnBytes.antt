-- A number's own bytes, lowest first, are those of the definition.
use Prim.Native.Nat.{ℕ, ◌/◌}
use mathlib.Core.Path.{◌≡◌, refl}
use native.Mathlib.Omega.{arith}
use Rattle.std.specs.Int.{to_le_bytes, w16, w32, w64}
use Rattle.words.specs.Le.{le}

pub le_two : (x : ℕ) → to_le_bytes w16 x ≡ le 2 x
unfolding le
le_two x = refl

pub le_four : (x : ℕ) → to_le_bytes w32 x ≡ le 4 x
unfolding le
le_four x =
    let second : x / 65536 ≡ x / 256 / 256 = omega arith in
    let third : x / 16777216 ≡ x / 256 / 256 / 256 = omega arith in
    rw (second, third)

pub le_eight : (x : ℕ) → to_le_bytes w64 x ≡ le 8 x
unfolding le
le_eight x =
    let second : x / 65536 ≡ x / 256 / 256 = omega arith in
    let third : x / 16777216 ≡ x / 256 / 256 / 256 = omega arith in
    let fourth : x / 4294967296 ≡ x / 256 / 256 / 256 / 256 = omega arith in
    let fifth : x / 1099511627776 ≡ x / 256 / 256 / 256 / 256 / 256 = omega arith in
    let sixth : x / 281474976710656 ≡ x / 256 / 256 / 256 / 256 / 256 / 256 = omega arith in
    let seventh : x / 72057594037927936 ≡ x / 256 / 256 / 256 / 256 / 256 / 256 / 256 = omega arith in
    rw (second, third, fourth, fifth, sixth, seventh)
