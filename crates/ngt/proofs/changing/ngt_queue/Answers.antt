use Rattle.ngt.proofs.CallLaws.{queues_by}
use Rattle.drive.specs.declared.Drive.{Drive}
use Rattle.queues.specs.Images.{images_done, images_volume}
use Rattle.ngt.proofs.changing.ngt_queue.Goals as goal

pub returns : goal.returns
returns c =
    let a = c.args in
    let e = c.queue_images-queued.ensures in
    queues_by (λ (z : Drive). images_done z a.vol.now a.requests.now a.bytes.now) (λ (z : Drive). images_volume z a.vol.now a.requests.now a.bytes.now)
    c.opened-d.ensures e.0 e.1 c.counter_rose.ensures c.keep.ensures c.long.ensures c.told.ensures.told c.told.ensures.shown
