use Rattle.nuggets.proofs.TestLaws.{passes_in, passes_out}
use mathlib.Core.Path.{ap, sym, ◌∙◌}
use mathlib.Core.Bool.{Bool, not}
use Rattle.nuggets.proofs.flake_passes.Goals as goal

pub returns-then-not-has : goal.returns-then-not-has
returns-then-not-has c =
    let a = c.args in
    ap (λ (b : Bool). not b) c.if-not-has.true ∙ passes_out a.s a.vol.now a.g a.mask a.f (sym c.has.ensures ∙ c.if-not-has.true)

pub returns-else-not-has : goal.returns-else-not-has
returns-else-not-has c = let a = c.args in passes_in a.s a.vol.now a.g a.mask a.f (sym c.has.ensures ∙ c.if-not-has.false) c.good_flake.ensures
