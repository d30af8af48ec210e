use mathlib.Core.Path.{refl}
use Rattle.keys.proofs.LaidOut.{laid_by_lem}
use Rattle.keys.proofs.tag_laid_out.Goals as goal

pub returns : goal.returns
returns c =
    let a = c.args in
    laid_by_lem a.key a.ad.now a.text.now _ c.front_of-front.ensures c.back_of-back.ensures refl c.over.ensures
