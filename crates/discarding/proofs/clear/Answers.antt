use Rattle.changes.proofs.DiscardLaws.{discard_works}
use Rattle.changes.specs.Change.{marked, tended}
use Rattle.layout.proofs.Limits.{limits}
use Rattle.records.specs.declared.Way.TheVariants.{Clear}
use Rattle.records.specs.Record.{record_of}
use Rattle.drive.specs.Drive.{shape_of}
use Prim.Native.Nat.{ℕ}
use native.Mathlib.Omega.{arith}
use mathlib.Core.Path.{◌∙◌, ap}
use Rattle.discarding.proofs.clear.Goals as goal

pub range_of-range-requires : goal.range_of-range-requires
range_of-range-requires c = omega (arith, c.requires.2, (limits (shape_of c.args.d) c.requires.0.limited).narrow)

pub returns : goal.returns
returns c =
    let d = c.args.d in
    let v = c.args.vol.now in
    let freed = c.args.freed in
    let range = c.range_of-range.ensures in
    let mark = c.mark.ensures ∙ ap (λ (m : ℕ). marked (shape_of d) d.epoch (Clear m) (record_of (shape_of d) v freed.nugget) freed.nugget v) range in
    let tend = c.tend.ensures ∙ ap (λ (m : ℕ). tended c.shape_of.result (Clear m) freed.nugget c.mark.new.vol) range in
    discard_works d v freed.nugget freed.first freed.count c.requires.1 mark c.shape_of.ensures tend
