use mathlib.Core.Path.{refl, sym, ap, ◌∙◌}
use Rattle.base.proofs.PickLaws.{yes, no}
use Rattle.answers.specs.Numbers.{accepts}
use Rattle.answers.proofs.StageLaws.{goes_on, stops, handed}
use Rattle.queues.specs.Queue.{before_writes}
use Rattle.queues.proofs.QueueLaws.{measured}
use Rattle.queues.proofs.admit.Goals as goal

pub returns : goal.returns
unfolding before_writes
returns g c =
    let e = c.measure.ensures ∙ measured c.args.d c.args.vol.now in
    sym (goes_on _ _ (ap accepts (sym e) ∙ ap accepts c.in_ok-measure.was) ∙ yes _ (sym c.add_up.ensures ∙ c.if-not-add_up.false) refl)

pub returns-then-not-add_up : goal.returns-then-not-add_up
unfolding before_writes
returns-then-not-add_up g c =
    let e = c.measure.ensures ∙ measured c.args.d c.args.vol.now in
    sym (goes_on _ _ (ap accepts (sym e) ∙ ap accepts c.in_ok-measure.was) ∙ no _ (sym c.add_up.ensures ∙ c.if-not-add_up.true) refl)

pub returns-in_err-measure : goal.returns-in_err-measure
unfolding before_writes
returns-in_err-measure g c =
    let e = c.measure.ensures ∙ measured c.args.d c.args.vol.now in
    handed _ _ _ c.from_residual.ensures.1 c.in_err-measure.was
    ∙ e ∙ sym (stops _ _ (ap accepts (sym e) ∙ ap accepts c.in_err-measure.was))
