use Rattle.laying.proofs.FlakeLaws.{turn_in, none-laid, one_left}
use Rattle.drive.specs.Drive.{shape_of}
use Rattle.records.specs.Journal.{bit}
use Rattle.changes.specs.Write.{new_contents}
use mathlib.Core.Path.{sym, ◌∙◌}
use Rattle.laying.proofs.flake.lay_flakes.Goals as goal
use Rattle.laying.proofs.flake.lay_flakes.Goals.{then-has, else-has}

pub loop-f-init : goal.loop-f-init
loop-f-init g c =
    let a = c.args in
    none-laid (shape_of a.d) a.d.salt (new_contents a.d a.vol.now (g.S.Source.offset a.new.now) (g.S.Source.bytes a.new.now)) a.n a.k a.d.present (bit a.mask) a.vol.now

pub loop-f-preserved : goal.loop-f-preserved
loop-f-preserved g c =
    let a = c.args in
    let pre = c.requires in
    let l = c.loop-f in
    let v = a.vol.now in
    let o = g.S.Source.offset a.new.now in
    let bytes = g.S.Source.bytes a.new.now in
    elim c.if-has.branch [
      | then-has w ↦ turn_in a.d v a.n a.k a.mask o bytes pre.1 l.f c.loop-f-test.true c.shape_of-s.ensures c.nugget_of-g.ensures c.lock_by-lock.ensures l.invariant (sym c.has.ensures ∙ w.if-has.true) (w.vol-is ∙ w.lay_flake.ensures)
      | else-has w ↦ w.vol-is ∙ one_left (shape_of a.d) a.d.salt (new_contents a.d v o bytes) a.n a.k a.d.present (bit a.mask) v l.f l.invariant (sym c.has.ensures ∙ w.if-has.false)
    ]
