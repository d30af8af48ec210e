use Rattle.std.proofs.Common.{length, refl, sym, ap, ◌∙◌, arith}
use Rattle.answers.specs.Numbers.{accepts}
use Rattle.layout.proofs.Limits.{lent_small}
use Rattle.summaries.proofs.AnswerLaws.{top-told}
use Rattle.summaries.proofs.TopLaws.{top-accepted, refused-top}
use Rattle.summaries.proofs.top.Goals as goal

pub load-requires : goal.load-requires
load-requires c =
    let a = c.args in
    let t = top-told a.d a.vol.now (length a.sum.now) (ap accepts (sym c.top_answer.ensures ∙ c.in-Ok.is)) in
    (omega arith, omega (arith, t.long, (lent_small t.lent).some_leaves))

pub returns-in-Ok : goal.returns-in-Ok
returns-in-Ok c =
    let a = c.args in
    let told = sym c.top_answer.ensures ∙ c.in-Ok.is in
    c.counted.ensures ∙ top-accepted a.d a.vol.now a.sum.now (sym told) refl c.load.ensures

pub returns-in-Err : goal.returns-in-Err
returns-in-Err c =
    let a = c.args in
    let told = sym c.top_answer.ensures ∙ c.in-Err.is in
    c.refused.ensures ∙ refused-top a.d a.vol.now a.sum.now (sym told) refl
