use mathlib.Core.Path.{ap, ◌∙◌}
use Rattle.answers.specs.Numbers.{accepts}
use Rattle.answers.proofs.StageLaws.{handed}
use Rattle.tree.proofs.Heights.{stands_top}
use Rattle.tree.proofs.Steps.{whole-on, whole_off}
use Rattle.tree.proofs.whole.Goals as goal

pub worst_under-requires : goal.worst_under-requires
worst_under-requires c = (c.requires, rw c.height_of.ensures (stands_top c.args.s))

pub returns-in_err-all_records : goal.returns-in_err-all_records
returns-in_err-all_records c =
    let a = c.args in
    handed _ _ _ c.from_residual.ensures.1 c.in_err-all_records.was
    ∙ whole_off a.s a.gauge a.vol.now c.all_records.ensures (ap accepts c.in_err-all_records.was)

pub returns : goal.returns
returns c =
    let a = c.args in
    whole-on a.s a.gauge a.vol.now c.all_records.ensures (ap accepts c.in_ok-all_records.was) c.height_of.ensures c.worst_under.ensures c.at_node.ensures
