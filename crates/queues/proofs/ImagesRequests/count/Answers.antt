use mathlib.Core.Path.{sym}
use Rattle.queues.proofs.ImageLaws.{count}
use Rattle.queues.proofs.ImagesRequests.count.Goals as goal

pub returns : goal.returns
returns c = sym (count c.args.self.now.bytes.now)
