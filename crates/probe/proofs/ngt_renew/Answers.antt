use Rattle.probe.specs.Probes.{renewed_bytes}
use Rattle.probe.proofs.ProbeLaws.{nugget_told_lem}
use Rattle.answers.specs.Numbers.{accepts}
use Rattle.base.proofs.PickLaws.{yes, no}
use mathlib.Core.Path.{refl, sym, ◌∙◌, ap}
use Rattle.probe.proofs.ngt_renew.Goals as goal

pub renew-requires : goal.renew-requires
renew-requires c = nugget_told_lem _ _ _ (sym (ap accepts c.shaped_nugget.ensures) ∙ sym c.is_ok.ensures.value ∙ c.if-is_ok.true)

pub returns-then-is_ok : goal.returns-then-is_ok
unfolding renewed_bytes
returns-then-is_ok c = rw (← c.shape-s.ensures) (c.renew.ensures ∙ sym (yes _ (sym (ap accepts c.shaped_nugget.ensures) ∙ sym c.is_ok.ensures.value ∙ c.if-is_ok.true) refl))

pub returns-else-is_ok : goal.returns-else-is_ok
unfolding renewed_bytes
returns-else-is_ok c = rw (← c.shape-s.ensures) (sym (no _ (sym (ap accepts c.shaped_nugget.ensures) ∙ sym c.is_ok.ensures.value ∙ c.if-is_ok.false) refl))
