use native.Mathlib.Omega.{arith}
use Prim.Native.Nat.{◌*◌, ◌/◌}
use lib.ListN.{length}
use Rattle.poly1305.proofs.StateLaws.{two}
use Rattle.poly1305.proofs.aligned.Goals as goal

pub returns : goal.returns
returns c = let m = c.args.m.now in
    two c.args.a.state m (16 * (length m / 16)) (omega arith) c.push_blocks.ensures.0 c.lay.ensures
