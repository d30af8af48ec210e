use mathlib.Core.Path.{sym, ap, ◌∙◌}
use Rattle.answers.specs.Numbers.{accepts}
use Rattle.answers.proofs.StageLaws.{goes_on, stops, handed}
use Rattle.queues.proofs.QueueLaws.{measured}
use Rattle.queues.proofs.uneven.Goals as goal

pub returns : goal.returns
returns c =
    let e = c.measure.ensures ∙ measured c.args.d c.args.vol.now in
    sym (goes_on _ _ (ap accepts (sym e) ∙ ap accepts c.in_ok-measure.was))

pub returns-in_err-measure : goal.returns-in_err-measure
returns-in_err-measure c =
    let e = c.measure.ensures ∙ measured c.args.d c.args.vol.now in
    handed _ _ _ c.from_residual.ensures.1 c.in_err-measure.was
    ∙ e ∙ sym (stops _ _ (ap accepts (sym e) ∙ ap accepts c.in_err-measure.was))
