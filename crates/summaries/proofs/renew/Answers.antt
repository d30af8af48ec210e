use Rattle.std.proofs.Common.{length, sym, ap, ◌∙◌}
use Rattle.answers.specs.Numbers.{accepts}
use Rattle.answers.proofs.StageLaws.{handed}
use Rattle.layout.specs.declared.Shape.{Shape}
use Rattle.summaries.specs.Entries.{renewed}
use Rattle.summaries.proofs.AnswerLaws.{renew-told, renew_stores, renew-leaves}
use Rattle.summaries.proofs.renew.Goals as goal

pub put_path-requires : goal.put_path-requires
put_path-requires c =
    let a = c.args in
    let t = renew-told a.d a.vol.now (length a.sum.now) a.nugget (ap accepts (sym c.renew_answer.ensures ∙ c.in_ok-renew_answer.was)) in
    rw c.shape_of.ensures (t.0.lent, t.0.long, t.1)

pub returns : goal.returns
returns c =
    let a = c.args in
    let e = c.renew_answer.ensures in (
      sym c.in_ok-renew_answer.was ∙ e,
      c.put_path.ensures ∙ ap (λ (s : Shape). renewed s a.d.epoch a.vol.now a.nugget a.sum.now) c.shape_of.ensures
          ∙ renew_stores a.d a.vol.now a.sum.now a.nugget e (ap accepts c.in_ok-renew_answer.was),
    )

pub returns-in_err-renew_answer : goal.returns-in_err-renew_answer
returns-in_err-renew_answer c =
    let a = c.args in
    let e = c.renew_answer.ensures in
    (handed _ _ _ c.from_residual.ensures.1 c.in_err-renew_answer.was ∙ e, renew-leaves a.d a.vol.now a.sum.now a.nugget e (ap accepts c.in_err-renew_answer.was))
