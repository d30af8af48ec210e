use mathlib.Core.Path.{sym, ap, ◌∙◌}
use mathlib.Core.Bool.{not}
use native.Mathlib.Omega.{arith}
use Rattle.answers.specs.Numbers.{accepts}
use Rattle.answers.proofs.StageLaws.{accepted_is}
use Rattle.queues.specs.Queue.{After, queued_by, before_writes}
use Rattle.queues.proofs.QueueLaws.{before_told, queue-first, queue-goes-on}
use Rattle.queues.proofs.queue_of.Goals as goal

pub write_all-requires : goal.write_all-requires
write_all-requires g c =
    let a = c.args in
    let on = ap accepts (sym c.admit-answer.ensures) ∙ c.is_err.ensures.negation ∙ ap not c.if-is_err.false in
    omega (arith, before_told a.d a.vol.now (g.R.Requests.listed a.rs.now) a.bytes.now on)

pub returns : goal.returns
returns g c =
    let a = c.args in
    let qs = g.R.Requests.listed a.rs.now in
    let on = ap accepts (sym c.admit-answer.ensures) ∙ c.is_err.ensures.negation ∙ ap not c.if-is_err.false in
    let whole = queue-goes-on a.d a.vol.now qs a.bytes.now (accepted_is (before_writes a.d a.vol.now qs a.bytes.now) on) in
    (c.write_all.ensures.0 ∙ sym (ap (λ (x : After). queued_by x) whole), c.write_all.ensures.1 ∙ sym (ap (λ (x : After). x.vol) whole))

pub returns-then-is_err : goal.returns-then-is_err
returns-then-is_err g c =
    let a = c.args in
    let qs = g.R.Requests.listed a.rs.now in
    let whole = queue-first a.d a.vol.now qs a.bytes.now c.admit-answer.result (sym c.admit-answer.ensures) (c.is_err.ensures.negation ∙ ap not c.if-is_err.true) in
    (c.queued_at.ensures ∙ sym (ap (λ (x : After). queued_by x) whole), sym (ap (λ (x : After). x.vol) whole))
