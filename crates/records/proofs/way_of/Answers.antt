use mathlib.Core.Path.{sym}
use Rattle.records.proofs.RuleLaws.{way_idle, way_add, way_left, way_shared}
use Rattle.records.proofs.way_of.Goals as goal

pub returns-then-touched-eq0 : goal.returns-then-touched-eq0
returns-then-touched-eq0 c = let a = c.args in sym (way_idle a.r a.touched a.epoch c.if-touched-eq0.true)

pub returns-then-r-epoch : goal.returns-then-r-epoch
returns-then-r-epoch c =
    let a = c.args in
    sym (way_add a.r a.touched a.epoch c.if-touched-eq0.false c.share_none.ensures c.if-share_none.true c.if-r-epoch.true)

pub returns-else-r-epoch : goal.returns-else-r-epoch
returns-else-r-epoch c =
    let a = c.args in
    sym (way_left a.r a.touched a.epoch c.if-touched-eq0.false c.share_none.ensures c.if-share_none.true c.if-r-epoch.false)

pub returns-else-share_none : goal.returns-else-share_none
returns-else-share_none c =
    let a = c.args in
    sym (way_shared a.r a.touched a.epoch c.if-touched-eq0.false c.share_none.ensures c.if-share_none.false)
