use Rattle.opening.specs.Mount.{head_fits, length_fits, shape_in, form_of}
use Rattle.layout.proofs.Limits.{inside}
use Rattle.layout.specs.Parts.{length_of}
use Rattle.layout.specs.Shape.{in_limits, within}
use Rattle.layout.specs.declared.Shape.{Shape}
use Rattle.base.proofs.PickLaws.{yes, no, both_left}
use borrow.Author.Tests.{eq-eqb, ne_eqb, le-leb, lt-leb}
use mathlib.Core.Bool.{true}
use mathlib.Core.Path.{◌≡◌, refl, sym, ◌∙◌, ap}
use Rattle.opening.proofs.head.form.Goals as goal

pub returns-then-vol-lt104 : goal.returns-then-vol-lt104
unfolding form_of
returns-then-vol-lt104 c = sym (no _ (lt-leb _ _ c.if-vol-lt104.true) refl)

pub returns : goal.returns
unfolding form_of head_fits length_fits
returns c =
    let v = c.args.vol.now in
    let fits : head_fits v ≡ true = sym c.head_fits.ensures ∙ c.if-not-head_fits.false in
    let long : c.length_of.result ≡ length_of (shape_in v) =
    c.length_of.ensures ∙ ap (λ (s : Shape). within s (length_of s)) c.shape_in.ensures ∙ inside (shape_in v) (both_left (in_limits (shape_in v)) _ fits) in
    sym (yes _ (le-leb _ _ c.if-vol-lt104.false) (yes _ (sym c.has_mark.ensures ∙ c.if-not-has_mark.false) (yes _ fits (yes _ (eq-eqb _ _ (c.if-vol-length_of.false ∙ long)) refl))))

pub returns-then-vol-length_of : goal.returns-then-vol-length_of
unfolding form_of head_fits length_fits
returns-then-vol-length_of c =
    let v = c.args.vol.now in
    let fits : head_fits v ≡ true = sym c.head_fits.ensures ∙ c.if-not-head_fits.false in
    let long : c.length_of.result ≡ length_of (shape_in v) =
    c.length_of.ensures ∙ ap (λ (s : Shape). within s (length_of s)) c.shape_in.ensures ∙ inside (shape_in v) (both_left (in_limits (shape_in v)) _ fits) in
    sym (yes _ (le-leb _ _ c.if-vol-lt104.false) (yes _ (sym c.has_mark.ensures ∙ c.if-not-has_mark.false) (yes _ fits (no _ (ne_eqb _ _ (λ e. c.if-vol-length_of.true (e ∙ sym long))) refl))))

pub returns-then-not-head_fits : goal.returns-then-not-head_fits
unfolding form_of
returns-then-not-head_fits c = sym (yes _ (le-leb _ _ c.if-vol-lt104.false) (yes _ (sym c.has_mark.ensures ∙ c.if-not-has_mark.false) (no _ (sym c.head_fits.ensures ∙ c.if-not-head_fits.true) refl)))

pub returns-then-not-has_mark : goal.returns-then-not-has_mark
unfolding form_of
returns-then-not-has_mark c = sym (yes _ (le-leb _ _ c.if-vol-lt104.false) (no _ (sym c.has_mark.ensures ∙ c.if-not-has_mark.true) refl))
