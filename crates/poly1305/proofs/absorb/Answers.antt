use Prim.Native.Nat.{◌-◌}
use Rattle.poly1305.proofs.StateLaws.{two}
use Rattle.poly1305.proofs.absorb.Goals as goal

pub returns : goal.returns
returns c = let s = c.args.a.state in
    two s c.args.m.now (16 - s.fill) c.if-m-room.false c.top_up.ensures.0 c.aligned-2.ensures
