use Prim.Native.Nat.{◌≤◌}
use mathlib.Core.Path.{ap, ◌∙◌}
use mathlib.Core.Bool.{not}
use lib.ListN.{length}
use native.Mathlib.Omega.{arith}
use Rattle.drive.specs.Drive.{shape_of}
use Rattle.twins.specs.Twins.{found_in}
use Rattle.twins.proofs.AnswerLaws.{judged}
use Rattle.twins.proofs.StepLaws.{tested, found_short, find-accepted, find-refused}
use Rattle.twins.proofs.find.Goals as goal

pub lay_twins-length-requires : goal.lay_twins-length-requires
lay_twins-length-requires c =
    let a = c.args in
    let t = (judged a.d a.first.now a.second.now a.n (tested c.judge-answer.ensures (c.is_err.ensures.negation ∙ ap not c.if-is_err.false))).sized in
    rw c.shape_of.ensures (t.first, t.second, t.there, omega (arith, c.told-one), omega (arith, c.told-two))

pub overflow_cast-length : goal.overflow_cast-length
overflow_cast-length c =
    let a = c.args in
    let t = (judged a.d a.first.now a.second.now a.n (tested c.judge-answer.ensures (c.is_err.ensures.negation ∙ ap not c.if-is_err.false))).sized in
    let short : length (found_in c.shape_of.result a.first.now a.second.now a.n a.first.now) ≤ 1055 =
    rw c.shape_of.ensures (found_short (shape_of a.d) a.first.now a.second.now a.n t.first t.there) in
    omega (arith, c.lay_twins-length.ensures.0, short)

pub returns : goal.returns
returns c =
    let a = c.args in
    find-accepted a.d a.first.now a.second.now a.n c.judge-answer.ensures (c.is_err.ensures.negation ∙ ap not c.if-is_err.false) a.one.now a.two.now c.shape_of.ensures c.lay_twins-length.ensures

pub returns-then-is_err : goal.returns-then-is_err
returns-then-is_err c =
    let a = c.args in
    find-refused a.d a.first.now a.second.now a.n c.judge-answer.ensures (c.is_err.ensures.negation ∙ ap not c.if-is_err.true) a.one.now a.two.now
