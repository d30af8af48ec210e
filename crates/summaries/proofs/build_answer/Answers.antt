use Rattle.std.proofs.Common.{sym, ap, ◌∙◌}
use Rattle.answers.specs.Numbers.{accepts}
use Rattle.answers.proofs.StageLaws.{goes_on, stops, handed}
use Rattle.summaries.specs.Calls.{build_answer}
use Rattle.summaries.proofs.AnswerLaws.{top-told}
use Rattle.summaries.proofs.build_answer.Goals as goal

pub whole-requires : goal.whole-requires
whole-requires c =
    let a = c.args in
    rw c.shape_of.ensures (top-told a.d a.vol.now a.len (ap accepts (sym c.top_answer.ensures ∙ c.in_ok-top_answer.was))).lent

pub returns : goal.returns
unfolding build_answer
returns c =
    c.whole.ensures ∙ rw (c.shape_of.ensures, c.gauge_of.ensures) (sym (goes_on _ _ (ap accepts (sym c.top_answer.ensures ∙ c.in_ok-top_answer.was))))

pub returns-in_err-top_answer : goal.returns-in_err-top_answer
unfolding build_answer
returns-in_err-top_answer c =
    handed _ _ _ c.from_residual.ensures.1 c.in_err-top_answer.was
    ∙ c.top_answer.ensures ∙ sym (stops _ _ (ap accepts (sym c.top_answer.ensures ∙ c.in_err-top_answer.was)))
