use Rattle.std.proofs.Common.{refl}
use Rattle.line.proofs.Page.put.Goals as goal

pub returns : goal.returns
returns c = record { same = refl; lies = refl; long = c.copy.auto.s; put = record { behind = refl; stored = c.copy.ensures } }
