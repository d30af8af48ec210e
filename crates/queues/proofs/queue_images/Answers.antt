use Rattle.queues.proofs.ImageLaws.{even, odd}
use Rattle.queues.proofs.queue_images.Goals as goal

pub returns : goal.returns
returns c =
    let a = c.args in
    even a.d a.vol.now a.images.now a.bytes.now c.if-images-ne0.false c.queue_of.ensures

pub returns-then-images-ne0 : goal.returns-then-images-ne0
returns-then-images-ne0 c =
    let a = c.args in
    odd a.d a.vol.now a.images.now a.bytes.now c.if-images-ne0.true c.uneven.ensures c.queued_at.ensures
