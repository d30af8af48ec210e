use Rattle.drive.proofs.HeadLaws.{form_limits}
use Rattle.drive.specs.Opening.{in_form, measure_of}
use Rattle.drive.specs.Drive.{shape_of}
use Rattle.layout.proofs.Limits.{inside}
use Rattle.layout.specs.Parts.{length_of}
use Rattle.layout.specs.Shape.{within}
use Rattle.layout.specs.declared.Shape.{Shape}
use Rattle.base.proofs.PickLaws.{yes, no}
use borrow.Author.Tests.{eq-eqb, ne_eqb}
use mathlib.Core.Bool.{true}
use mathlib.Core.Path.{◌≡◌, refl, sym, ◌∙◌, ap}
use Rattle.drive.proofs.measure.Goals as goal

pub returns : goal.returns
unfolding measure_of
returns c =
    let d = c.args.d in
    let form : in_form d ≡ true = sym c.in_form.ensures ∙ c.if-not-in_form.false in
    let long : c.length_of.result ≡ length_of (shape_of d) = c.length_of.ensures ∙ ap (λ (s : Shape). within s (length_of s)) c.shape_of.ensures ∙ inside (shape_of d) (form_limits d form) in
    sym (yes _ form (yes _ (eq-eqb _ _ (c.if-vol-length_of.false ∙ long)) refl))

pub returns-then-vol-length_of : goal.returns-then-vol-length_of
unfolding measure_of
returns-then-vol-length_of c =
    let d = c.args.d in
    let form : in_form d ≡ true = sym c.in_form.ensures ∙ c.if-not-in_form.false in
    let long : c.length_of.result ≡ length_of (shape_of d) = c.length_of.ensures ∙ ap (λ (s : Shape). within s (length_of s)) c.shape_of.ensures ∙ inside (shape_of d) (form_limits d form) in
    sym (yes _ form (no _ (ne_eqb _ _ (λ e. c.if-vol-length_of.true (e ∙ sym long))) refl))

pub returns-then-not-in_form : goal.returns-then-not-in_form
unfolding measure_of
returns-then-not-in_form c = sym (no _ (sym c.in_form.ensures ∙ c.if-not-in_form.true) refl)
