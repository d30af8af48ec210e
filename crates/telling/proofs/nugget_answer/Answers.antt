use Rattle.std.proofs.Common.{refl, sym, ap, ◌∙◌}
use Rattle.telling.specs.Told.{nugget_answer}
use Rattle.drive.specs.Opening.{opening_of}
use Rattle.drive.proofs.OpeningLaws.{opening_lent}
use Rattle.answers.specs.Numbers.{accepts}
use Rattle.answers.proofs.StageLaws.{goes_on, stops, handed}
use Rattle.base.proofs.PickLaws.{yes, no}
use borrow.Author.Tests.{lt-ltb, le-ltb}
use Rattle.telling.proofs.nugget_answer.Goals as goal

pub returns-in_err-opening : goal.returns-in_err-opening
unfolding nugget_answer
returns-in_err-opening c =
    let a = c.args in
    handed _ _ _ c.from_residual.ensures.1 c.in_err-opening.was
    ∙ c.opening.ensures ∙ sym (stops (opening_of a.d a.vol.now) _ (ap accepts (sym c.opening.ensures) ∙ ap accepts c.in_err-opening.was))

pub path-requires : goal.path-requires
path-requires c =
    let a = c.args in
    rw c.shape_of.ensures (opening_lent a.d a.vol.now (ap accepts (sym c.opening.ensures) ∙ ap accepts c.in_ok-opening.was), c.if-n-d.false)

pub returns-then-n-d : goal.returns-then-n-d
unfolding nugget_answer
returns-then-n-d c =
    let a = c.args in
    sym (goes_on (opening_of a.d a.vol.now) _ (ap accepts (sym c.opening.ensures) ∙ ap accepts c.in_ok-opening.was) ∙ no _ (le-ltb a.n a.d.n c.if-n-d.true) refl)

pub returns : goal.returns
unfolding nugget_answer
returns c =
    let a = c.args in
    c.path.ensures
    ∙ rw (c.shape_of.ensures, c.gauge_of.ensures) (sym (goes_on (opening_of a.d a.vol.now) _ (ap accepts (sym c.opening.ensures) ∙ ap accepts c.in_ok-opening.was) ∙ yes _ (lt-ltb a.n a.d.n c.if-n-d.false) refl))
