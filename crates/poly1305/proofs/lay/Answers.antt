use mathlib.Core.Path.{sym}
use Rattle.poly1305.proofs.StateLaws.{lays}
use Rattle.poly1305.proofs.lay.Goals as goal

pub returns : goal.returns
returns c = rw c.copy.ensures (sym (lays c.args.m.now c.args.a.state c.requires))
