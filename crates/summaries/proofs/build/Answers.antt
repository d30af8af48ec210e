use Rattle.std.proofs.Common.{length, sym, ap, ◌∙◌}
use Rattle.answers.specs.Numbers.{accepts}
use Rattle.answers.proofs.StageLaws.{handed}
use Rattle.layout.specs.declared.Shape.{Shape}
use Rattle.summaries.specs.Entries.{built}
use Rattle.summaries.proofs.AnswerLaws.{build-told, build_stores, build-leaves}
use Rattle.summaries.proofs.build.Goals as goal

pub put_all-requires : goal.put_all-requires
put_all-requires c =
    let a = c.args in
    let t = build-told a.d a.vol.now (length a.sum.now) (ap accepts (sym c.build_answer.ensures ∙ c.in_ok-build_answer.was)) in
    rw c.shape_of.ensures (t.0.lent, t.0.long)

pub returns : goal.returns
returns c =
    let a = c.args in
    let e = c.build_answer.ensures in (
      sym c.in_ok-build_answer.was ∙ e,
      c.put_all.ensures ∙ ap (λ (s : Shape). built s a.d.epoch a.vol.now a.sum.now) c.shape_of.ensures
          ∙ build_stores a.d a.vol.now a.sum.now e (ap accepts c.in_ok-build_answer.was),
    )

pub returns-in_err-build_answer : goal.returns-in_err-build_answer
returns-in_err-build_answer c =
    let a = c.args in
    let e = c.build_answer.ensures in
    (handed _ _ _ c.from_residual.ensures.1 c.in_err-build_answer.was ∙ e, build-leaves a.d a.vol.now a.sum.now e (ap accepts c.in_err-build_answer.was))
