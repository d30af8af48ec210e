use Prim.Native.Nat.{◌%◌, ◌^◌}
use lib.Dec.{lit≤}
use Rattle.limbs.specs.Limbs.{value, p}
use Rattle.limbs.proofs.Field.{frozen}
use Rattle.limbs.proofs.Digits.{wraps, held, loose-under, digits-under}
use Rattle.limbs.proofs.freeze.Goals as goal

pub returns : goal.returns
returns c = let h = c.args.h in
    let b = c.requires in
    let over = c.ripple-over in
    let left = c.ripple in
    let few = over.ensures.light b.b0 b.b1 b.b2 b.b3 b.b4 (lit≤ tt) in
    held left.result.low (value h % p)
    (frozen (2 ^ 26) p wraps (value h) (value over.result.low) (value left.result.low) over.result.top left.result.top over.ensures.whole left.ensures.whole
    (digits-under _ over.ensures.small) (digits-under _ left.ensures.small) (loose-under h b) few)
    left.ensures.small
