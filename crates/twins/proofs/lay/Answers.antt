use Rattle.twins.proofs.StepLaws.{laid-long, laid}
use Rattle.twins.proofs.lay.Goals as goal

pub returns : goal.returns
returns c =
    let a = c.args in
    (laid-long a.x.now a.y.now a.z.now, laid a.out.now a.x.now a.y.now a.z.now c.copy.ensures c.copy-2.ensures c.copy-3.ensures)
