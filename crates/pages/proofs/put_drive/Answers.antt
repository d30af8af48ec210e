use Rattle.std.proofs.Common.{arith}
use Rattle.line.proofs.PageLaws.{puts_then, puts_as}
use Rattle.layout.proofs.Limits.{limits}
use Rattle.drive.specs.Drive.{shape_of}
use Rattle.pages.proofs.PageLaws.{lines_le, counter-le, drive_text_lem}
use Rattle.pages.proofs.put_drive.Goals as goal

pub put_counter-requires : goal.put_counter-requires
put_counter-requires c =
    let a = c.args in
    omega (arith, c.put_nuggets.ensures.put.behind, c.put_nuggets.ensures.long, lines_le a.d a.vol.now a.d.n (limits (shape_of a.d) c.requires.0.limited).narrow, c.requires.1)

pub put_old-requires : goal.put_old-requires
put_old-requires c =
    let a = c.args in
    omega (arith, c.put_nuggets.ensures.put.behind, c.put_nuggets.ensures.long, lines_le a.d a.vol.now a.d.n (limits (shape_of a.d) c.requires.0.limited).narrow, c.put_counter.ensures.put.behind, c.put_counter.ensures.long, counter-le a.outside, c.requires.1)

pub returns : goal.returns
returns c =
    let a = c.args in
    puts_as _ _ (drive_text_lem a.d a.vol.now a.outside) (puts_then _ _ (puts_then _ _ c.put_nuggets.ensures c.put_counter.ensures) c.put_old.ensures)
