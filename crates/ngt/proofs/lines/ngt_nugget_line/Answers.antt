use Rattle.ngt.proofs.LineLaws.{lined_by}
use Rattle.telling.specs.Told.{nugget_answer, nugget_told}
use Rattle.drive.specs.declared.Drive.{Drive}
use Rattle.ngt.proofs.lines.ngt_nugget_line.Goals as goal

pub returns : goal.returns
returns c =
    let a = c.args in
    lined_by (λ (x : Drive). nugget_answer x a.vol.now a.nugget) (λ (x : Drive). nugget_told x a.vol.now a.nugget) c.unpack.ensures c.nugget_line-t.ensures c.answer_image.ensures
