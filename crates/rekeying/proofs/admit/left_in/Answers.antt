use Rattle.reports.proofs.CountLaws.{moved_le}
use Rattle.drive.specs.Drive.{shape_of}
use Rattle.rekeying.proofs.admit.left_in.Goals as goal

pub overflow_sub-result : goal.overflow_sub-result
overflow_sub-result c =
    let a = c.args in
    rw (c.moved_in.ensures, c.shape_of.ensures) (moved_le (shape_of a.d) a.d.epoch a.vol.now a.d.n)
