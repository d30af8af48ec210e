use Rattle.twins.proofs.MeetLaws.{meeting-within}
use Rattle.twins.proofs.StepLaws.{none-laid, twins_laid}
use Rattle.twins.proofs.lay_twins.Goals as goal

pub returns-then-alike : goal.returns-then-alike
returns-then-alike c =
    let a = c.args in
    none-laid a.s a.first.now a.second.now a.n c.alike.ensures c.if-alike.true a.one.now a.two.now

pub lay_message-requires : goal.lay_message-requires
lay_message-requires c =
    let a = c.args in
    let p = c.requires in
    let q = meeting-within a.s a.first.now a.second.now a.n p.0 p.2 in
    rw c.meet-i.ensures (p.1, q.0, q.1, p.4)

pub lay_message-requires-2 : goal.lay_message-requires-2
lay_message-requires-2 c =
    let a = c.args in
    let p = c.requires in
    let q = meeting-within a.s a.first.now a.second.now a.n p.0 p.2 in
    rw c.meet-i.ensures (p.0, q.0, q.1, p.3)

pub returns : goal.returns
returns c =
    let a = c.args in
    twins_laid a.s a.first.now a.second.now a.n a.one.now a.two.now c.alike.ensures c.if-alike.false c.meet-i.ensures
    c.lay_message-2.ensures c.lay_message.ensures
