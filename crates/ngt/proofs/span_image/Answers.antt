use Rattle.ngt.specs.Calls.{span_image}
use Rattle.words.specs.Le.{le}
use Rattle.drive.specs.Drive.{shape_of}
use Rattle.layout.proofs.Limits.{inside}
use Rattle.layout.specs.Parts.{flake_at}
use Rattle.layout.specs.Shape.{within}
use Rattle.layout.specs.declared.Shape.{Shape}
use Rattle.answers.specs.Numbers.{accepts}
use Rattle.base.proofs.PickLaws.{yes, no}
use Prim.Native.Nat.{ℕ}
use mathlib.Core.List.{◌++◌}
use Rattle.ngt.proofs.CallLaws.{stored_limits}
use mathlib.Core.Path.{refl, sym, ◌∙◌, ap}
use Rattle.ngt.proofs.span_image.Goals as goal

pub returns-then-is_ok : goal.returns-then-is_ok
unfolding span_image
returns-then-is_ok c =
    let a = c.args in
    let ok = sym (ap accepts c.stored_flake_answer.ensures) ∙ sym c.is_ok.ensures.value ∙ c.if-is_ok.true in
    let lim = stored_limits a.d a.vol.now a.nugget a.flake ok in
    let at = c.flake_at.ensures ∙ ap (λ (s : Shape). within s (flake_at s a.nugget a.flake)) c.shape_of.ensures ∙ inside (shape_of a.d) lim in
    c.two.ensures ∙ ap (λ (x : ℕ). le 8 x ++ le 8 a.d.f) at ∙ sym (yes _ ok refl)

pub returns-else-is_ok : goal.returns-else-is_ok
unfolding span_image
returns-else-is_ok c = sym (no _ (sym (ap accepts c.stored_flake_answer.ensures) ∙ sym c.is_ok.ensures.value ∙ c.if-is_ok.false) refl)
