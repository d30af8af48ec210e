use mathlib.Core.Path.{◌∙◌}
use borrow.Author.Tests.{eq-eqb, ne_eqb}
use Rattle.keys.proofs.StreamLaws.{laid-aes, laid-chacha20}
use Rattle.keys.proofs.lay_blocks.Goals as goal

pub returns-then-lock-eq16 : goal.returns-then-lock-eq16
returns-then-lock-eq16 c =
    let a = c.args in
    let pre = c.requires in
    c.lay.ensures ∙ rw c.from.ensures (laid-aes a.lock a.n a.d.now (eq-eqb a.lock.cipher 16 c.if-lock-eq16.true) pre.0 pre.1)

pub returns-else-lock-eq16 : goal.returns-else-lock-eq16
returns-else-lock-eq16 c =
    let a = c.args in
    let pre = c.requires in
    c.lay-else-lock-eq16.ensures ∙ rw c.nonce_of.ensures (laid-chacha20 a.lock a.n a.d.now (ne_eqb a.lock.cipher 16 c.if-lock-eq16.false) pre.0 pre.1)
