use mathlib.Core.Path.{ap}
use native.Mathlib.Omega.{arith}
use Rattle.records.specs.Rule.{rekeys}
use Rattle.records.proofs.RuleLaws.{turned-idle, turned-add, turned-rekey, turned_clear}
use Rattle.records.proofs.turn.Goals as goal

pub next-requires : goal.next-requires
next-requires c =
    omega (arith, c.requires (ap rekeys c.in-Rekey.is))

pub returns-in-Idle : goal.returns-in-Idle
returns-in-Idle c = let a = c.args in turned-idle a.way a.epoch a.r c.in-Idle.is

pub returns-in-Add : goal.returns-in-Add
returns-in-Add c =
    let a = c.args in
    turned-add a.way a.epoch a.r _ c.in-Add.is c.join.ensures c.join-in-Add.ensures

pub returns-in-Rekey : goal.returns-in-Rekey
returns-in-Rekey c =
    let a = c.args in
    rw c.next.ensures (turned-rekey a.way a.epoch a.r _ c.in-Rekey.is c.join-flakes.ensures)

pub returns-in-Clear : goal.returns-in-Clear
returns-in-Clear c =
    let a = c.args in
    turned_clear a.way a.epoch a.r _ c.in-Clear.is c.leave.ensures
