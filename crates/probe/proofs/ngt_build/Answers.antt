use Rattle.probe.specs.Probes.{built_bytes}
use Rattle.probe.proofs.ProbeLaws.{lent_told}
use Rattle.answers.specs.Numbers.{accepts}
use Rattle.base.proofs.PickLaws.{yes, no}
use mathlib.Core.Path.{refl, sym, ◌∙◌, ap}
use Rattle.probe.proofs.ngt_build.Goals as goal

pub build-requires : goal.build-requires
build-requires c = lent_told _ _ (sym (ap accepts c.shaped.ensures) ∙ sym c.is_ok.ensures.value ∙ c.if-is_ok.true)

pub returns-then-is_ok : goal.returns-then-is_ok
unfolding built_bytes
returns-then-is_ok c = rw (← c.shape-s.ensures) (c.build.ensures ∙ sym (yes _ (sym (ap accepts c.shaped.ensures) ∙ sym c.is_ok.ensures.value ∙ c.if-is_ok.true) refl))

pub returns-else-is_ok : goal.returns-else-is_ok
unfolding built_bytes
returns-else-is_ok c = rw (← c.shape-s.ensures) (sym (no _ (sym (ap accepts c.shaped.ensures) ∙ sym c.is_ok.ensures.value ∙ c.if-is_ok.false) refl))
