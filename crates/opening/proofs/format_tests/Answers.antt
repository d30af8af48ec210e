use Rattle.opening.specs.Format.{format_answer}
use Rattle.layout.specs.Parts.{length_of}
use Rattle.layout.specs.Shape.{in_limits}
use Rattle.layout.proofs.Limits.{inside}
use Rattle.base.proofs.PickLaws.{yes, no}
use borrow.Author.Tests.{eq-eqb, ne_eqb}
use mathlib.Core.Bool.{true}
use mathlib.Core.Path.{◌≡◌, refl, sym, ◌∙◌}
use Rattle.opening.proofs.format_tests.Goals as goal

pub returns-then-outside-eq18446744073709551615 : goal.returns-then-outside-eq18446744073709551615
unfolding format_answer
returns-then-outside-eq18446744073709551615 c =
    let s = c.args.s in
    let lim : in_limits s ≡ true = sym c.in_limits.ensures ∙ c.if-not-in_limits.false in
    let long : c.length_of.result ≡ length_of s = c.length_of.ensures ∙ inside s lim in
    sym (yes _ lim (yes _ (eq-eqb _ _ (c.if-vol-length_of.false ∙ long)) (yes _ (eq-eqb _ _ c.if-outside-eq18446744073709551615.true) refl)))

pub returns-then-vol-length_of : goal.returns-then-vol-length_of
unfolding format_answer
returns-then-vol-length_of c =
    let s = c.args.s in
    let lim : in_limits s ≡ true = sym c.in_limits.ensures ∙ c.if-not-in_limits.false in
    let long : c.length_of.result ≡ length_of s = c.length_of.ensures ∙ inside s lim in
    sym (yes _ lim (no _ (ne_eqb _ _ (λ e. c.if-vol-length_of.true (e ∙ sym long))) refl))

pub returns-then-not-in_limits : goal.returns-then-not-in_limits
unfolding format_answer
returns-then-not-in_limits c = sym (no _ (sym c.in_limits.ensures ∙ c.if-not-in_limits.true) refl)

pub returns : goal.returns
unfolding format_answer
returns c =
    let s = c.args.s in
    let lim : in_limits s ≡ true = sym c.in_limits.ensures ∙ c.if-not-in_limits.false in
    let long : c.length_of.result ≡ length_of s = c.length_of.ensures ∙ inside s lim in
    sym (yes _ lim (yes _ (eq-eqb _ _ (c.if-vol-length_of.false ∙ long)) (no _ (ne_eqb _ _ c.if-outside-eq18446744073709551615.false) refl)))
