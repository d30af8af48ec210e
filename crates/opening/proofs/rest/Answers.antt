use Rattle.opening.specs.Mount.{rest_of}
use Rattle.tree.specs.Whole.{whole_of}
use Rattle.answers.specs.Numbers.{accepts}
use Rattle.layout.specs.declared.Shape.{Shape}
use Rattle.records.specs.declared.Gauge.{Gauge}
use mathlib.Core.Path.{sym, ◌∙◌, ap, ap₂}
use Rattle.answers.proofs.StageLaws.{goes_on, stops, handed}
use Rattle.opening.proofs.rest.Goals as goal

pub returns : goal.returns
unfolding rest_of
returns c =
    let a = c.args in
    c.whole.ensures ∙ ap₂ (λ (s : Shape) (g : Gauge). whole_of s g a.vol.now) c.shape_of.ensures c.gauge_of.ensures
    ∙ sym (goes_on _ _ (ap accepts (sym c.keys_fit.ensures ∙ c.in_ok-keys_fit.was)))

pub returns-in_err-keys_fit : goal.returns-in_err-keys_fit
unfolding rest_of
returns-in_err-keys_fit c =
    handed _ _ _ c.from_residual.ensures.1 c.in_err-keys_fit.was
    ∙ c.keys_fit.ensures ∙ sym (stops _ _ (ap accepts (sym c.keys_fit.ensures ∙ c.in_err-keys_fit.was)))
