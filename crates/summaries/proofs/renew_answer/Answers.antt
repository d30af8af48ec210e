use Rattle.std.proofs.Common.{sym, refl, ap, ◌∙◌, arith, le-ltb, lt-ltb}
use Rattle.base.proofs.PickLaws.{yes, no}
use Rattle.answers.specs.Numbers.{accepts}
use Rattle.answers.proofs.StageLaws.{goes_on, stops, handed}
use Rattle.summaries.specs.Calls.{renew_answer}
use Rattle.summaries.proofs.AnswerLaws.{top-told}
use Rattle.summaries.proofs.renew_answer.Goals as goal

pub path-requires : goal.path-requires
path-requires c =
    let a = c.args in
    let on = ap accepts (sym c.top_answer.ensures ∙ c.in_ok-top_answer.was) in
    rw c.shape_of.ensures ((top-told a.d a.vol.now a.len on).lent, omega (arith, c.if-nugget-d.false))

pub returns-then-nugget-d : goal.returns-then-nugget-d
unfolding renew_answer
returns-then-nugget-d c =
    let a = c.args in
    let on = ap accepts (sym c.top_answer.ensures ∙ c.in_ok-top_answer.was) in
    sym (goes_on _ _ on ∙ no _ (le-ltb a.nugget a.d.n (omega (arith, c.if-nugget-d.true))) refl)

pub returns : goal.returns
unfolding renew_answer
returns c =
    let a = c.args in
    let on = ap accepts (sym c.top_answer.ensures ∙ c.in_ok-top_answer.was) in
    c.path.ensures ∙ rw (c.shape_of.ensures, c.gauge_of.ensures) (sym (goes_on _ _ on ∙ yes _ (lt-ltb a.nugget a.d.n (omega (arith, c.if-nugget-d.false))) refl))

pub returns-in_err-top_answer : goal.returns-in_err-top_answer
unfolding renew_answer
returns-in_err-top_answer c =
    handed _ _ _ c.from_residual.ensures.1 c.in_err-top_answer.was
    ∙ c.top_answer.ensures ∙ sym (stops _ _ (ap accepts (sym c.top_answer.ensures ∙ c.in_err-top_answer.was)))
