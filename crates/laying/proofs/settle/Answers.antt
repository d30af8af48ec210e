use Rattle.laying.proofs.ChangeLaws.{settled_is}
use Rattle.laying.proofs.settle.Goals as goal

pub returns : goal.returns
returns c = settled_is c.args.d c.args.vol.now c.head.ensures c.copy.ensures
