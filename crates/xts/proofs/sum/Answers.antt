-- Column by column.
use mathlib.Core.Path.{◌∙◌}
use Rattle.words.proofs.LeLaws.{owned_bytes}
use Rattle.xts.proofs.SectorCode.{sum_is}
use Rattle.xts.proofs.sum.Goals as goal

pub returns : goal.returns
returns c =
    let known = c.well_formed.0 in
    let p = c.args.p in
    c.bytes.ensures
    ∙ sum_is p c.args.t _ _ (record { long = known.1.0.1; bytes = owned_bytes p known.0 known.1.1 }) c.load.ensures c.add.ensures
