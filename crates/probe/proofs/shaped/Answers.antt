use Rattle.layout.proofs.Limits.{inside}
use Rattle.layout.specs.Parts.{length_of}
use Rattle.layout.specs.Shape.{in_limits}
use Rattle.probe.specs.Probes.{shaped_answer}
use Rattle.base.proofs.PickLaws.{yes, no}
use borrow.Author.Tests.{eq-eqb, ne_eqb}
use mathlib.Core.Bool.{true}
use mathlib.Core.Path.{◌≡◌, refl, sym, ◌∙◌}
use Rattle.probe.proofs.shaped.Goals as goal

pub returns : goal.returns
unfolding shaped_answer
returns c =
    let lim : in_limits c.args.s ≡ true = sym c.in_limits.ensures ∙ c.if-not-in_limits.false in
    let long : c.length_of.result ≡ length_of c.args.s = c.length_of.ensures ∙ inside c.args.s lim in
    sym (yes _ lim (yes _ (eq-eqb _ _ (c.if-vol-length_of.false ∙ long)) refl))

pub returns-then-vol-length_of : goal.returns-then-vol-length_of
unfolding shaped_answer
returns-then-vol-length_of c =
    let lim : in_limits c.args.s ≡ true = sym c.in_limits.ensures ∙ c.if-not-in_limits.false in
    let long : c.length_of.result ≡ length_of c.args.s = c.length_of.ensures ∙ inside c.args.s lim in
    sym (yes _ lim (no _ (ne_eqb _ _ (λ e. c.if-vol-length_of.true (e ∙ sym long))) refl))

pub returns-then-not-in_limits : goal.returns-then-not-in_limits
unfolding shaped_answer
returns-then-not-in_limits c = sym (no _ (sym c.in_limits.ensures ∙ c.if-not-in_limits.true) refl)
