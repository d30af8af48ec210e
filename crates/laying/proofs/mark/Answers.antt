use Rattle.laying.proofs.ChangeLaws.{read_is, marked_not, marked_is}
use mathlib.Core.Path.{sym, ◌∙◌}
use Rattle.records.specs.Record.{record_of}
use Rattle.drive.specs.Drive.{shape_of}
use Rattle.laying.proofs.mark.Goals as goal

pub returns-else-not-idle : goal.returns-else-not-idle
returns-else-not-idle c =
    let a = c.args in
    marked_not (shape_of a.d) a.d.epoch a.way (record_of (shape_of a.d) a.vol.now a.n) a.n a.vol.now (sym c.idle.ensures ∙ c.if-not-idle.false)

pub returns-then-not-idle : goal.returns-then-not-idle
returns-then-not-idle c =
    let a = c.args in
    marked_is (shape_of a.d) a.d.epoch a.way (record_of (shape_of a.d) a.vol.now a.n) a.n a.vol.now (sym c.idle.ensures ∙ c.if-not-idle.true) c.shape_of-s.ensures (read_is a.vol.now a.n c.read-r.ensures c.shape_of-s.ensures) c.turn-after.ensures c.store.ensures
