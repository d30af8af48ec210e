use native.Mathlib.Omega.{arith}
use Prim.Native.Nat.{◌+◌, ◌*◌, ◌/◌, ◌^◌}
use lib.Bits.{or_lt}
use Rattle.std.specs.Int.{from_bool}
use Rattle.limbs.proofs.Quads.{joined, from_bool-le}
use Rattle.limbs.proofs.join.Goals as goal

pub returns : goal.returns
returns c = let a = c.args in
    let one = from_bool a.whole in
    rw (c.from.ensures, c.from-2.ensures, c.from-3.ensures, c.from-4.ensures, c.from-5.ensures)
    record {
      whole = joined a.a a.b a.c a.d one (omega (arith, c.ranges.c)) (omega (arith, c.ranges.d));
      small =
          record {
            b0 = omega arith;
            b1 = omega arith;
            b2 = omega arith;
            b3 = omega arith;
            b4 = or_lt 26 ((a.c + 2 ^ 32 * a.d) / 2 ^ 40) (one * 2 ^ 24) (omega arith) (omega (arith, from_bool-le a.whole));
          };
    }
