use Rattle.reports.proofs.AnswerLaws.{stored_place, stored-part}
use Rattle.drive.specs.Drive.{shape_of}
use Rattle.answers.specs.Numbers.{accepts}
use Rattle.layout.specs.Parts.{flake_at}
use mathlib.Core.Bool.{true, false, not}
use Rattle.reports.specs.Stored.{stored_answer, stored_flake, stored_at, onward}
use Rattle.base.proofs.PickLaws.{yes, no}
use native.Mathlib.Omega.{arith}
use mathlib.Core.Path.{◌≡◌, refl, sym, ap, ◌∙◌}
use Rattle.reports.proofs.stored_flake.Goals as goal

pub overflow_add-result : goal.overflow_add-result
overflow_add-result c =
    let k = c.args in
    let on = ap accepts (sym c.stored_flake_answer.ensures) ∙ c.is_err.ensures.negation ∙ ap not c.if-is_err.false in
    omega (arith, (stored_place k.d k.vol.now k.nugget k.flake on c.shape_of.ensures c.flake_at-at.ensures).room)

pub slice_bounds-result-end-2 : goal.slice_bounds-result-end-2
slice_bounds-result-end-2 c =
    let k = c.args in
    let on = ap accepts (sym c.stored_flake_answer.ensures) ∙ c.is_err.ensures.negation ∙ ap not c.if-is_err.false in
    omega (arith, (stored_place k.d k.vol.now k.nugget k.flake on c.shape_of.ensures c.flake_at-at.ensures).room)

pub returns-then-is_err : goal.returns-then-is_err
unfolding stored_flake stored_at
returns-then-is_err c =
    let k = c.args in
    let h : accepts (stored_answer k.d k.vol.now k.nugget k.flake) ≡ false = ap accepts (sym c.stored_flake_answer.ensures) ∙ c.is_err.ensures.negation ∙ ap not c.if-is_err.true in
    (sym (no _ h refl), ap (onward k.vol.ref_ptr) (sym (no _ h refl)))

pub returns : goal.returns
unfolding stored_flake stored_at
returns c =
    let k = c.args in
    let on : accepts (stored_answer k.d k.vol.now k.nugget k.flake) ≡ true = ap accepts (sym c.stored_flake_answer.ensures) ∙ c.is_err.ensures.negation ∙ ap not c.if-is_err.false in
    let at = (stored_place k.d k.vol.now k.nugget k.flake on c.shape_of.ensures c.flake_at-at.ensures).place in
    (stored-part k.vol.now c.flake_at-at.result (flake_at (shape_of k.d) k.nugget k.flake) k.d.f at ∙ sym (yes _ on refl), ap (onward k.vol.ref_ptr) (at ∙ sym (yes _ on refl)))
