use Rattle.queues.proofs.ImageLaws.{request_loads}
use Rattle.queues.proofs.request_at.Goals as goal

pub returns : goal.returns
returns c =
    let a = c.args in
    request_loads a.images.now a.at c.load.ensures.0 c.load-2.ensures.0
