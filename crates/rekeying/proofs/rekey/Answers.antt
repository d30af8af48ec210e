use Rattle.changes.proofs.SweepLaws.{sweep_record, sweep_works}
use mathlib.Core.Path.{◌∙◌}
use Rattle.rekeying.proofs.rekey.Goals as goal

pub mark-requires : goal.mark-requires
mark-requires c =
    let d = c.args.d in
    let v = c.args.vol.now in
    let n = c.args.n in
    let l = c.requires.0 in
    let same = sweep_record d v n l c.requires.1 c.lay.ensures in
    (record { limited = l.limited; size = c.lay.auto.vol ∙ l.size }, c.requires.1, rw same c.requires.2)

pub returns : goal.returns
returns c =
    let d = c.args.d in
    let v = c.args.vol.now in
    let n = c.args.n in
    sweep_works d v n c.requires.0 c.requires.1 c.lay.ensures c.mark.ensures c.shape_of.ensures c.tend.ensures
