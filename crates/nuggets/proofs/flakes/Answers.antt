use Rattle.nuggets.proofs.TestLaws.{up-on, up_off, up_end, up_start}
use mathlib.Core.Path.{sym, ◌∙◌}
use Rattle.nuggets.proofs.flakes.Goals as goal

pub loop-f-init : goal.loop-f-init
loop-f-init c = let a = c.args in up_start a.s a.vol.now a.g a.mask

pub flake_passes-requires : goal.flake_passes-requires
flake_passes-requires c = (c.requires.0, c.requires.1, c.loop-f-test.true)

pub loop-f-preserved : goal.loop-f-preserved
loop-f-preserved c = let a = c.args in let l = c.loop-f in up-on a.s a.vol.now a.g a.mask a.s.p l.f c.loop-f-test.true (sym c.flake_passes.ensures ∙ c.if-not-flake_passes.false) ∙ l.invariant

pub returns-then-not-flake_passes : goal.returns-then-not-flake_passes
returns-then-not-flake_passes c = let a = c.args in let l = c.loop-f in up_off a.s a.vol.now a.g a.mask a.s.p l.f c.loop-f-test.true (sym c.flake_passes.ensures ∙ c.if-not-flake_passes.true) ∙ l.invariant

pub returns : goal.returns
returns c = let a = c.args in let l = c.loop-f in up_end a.s a.vol.now a.g a.mask a.s.p l.f c.loop-f-test.false ∙ l.invariant
