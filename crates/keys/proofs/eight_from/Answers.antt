use mathlib.Core.Path.{◌≡◌, ◌∙◌}
use lib.ListN.{replicate}
use borrow.Author.Tests.{ne_eqb}
use Rattle.keys.proofs.StreamLaws.{stream-bare, eight-chacha20}
use Rattle.keys.proofs.eight_from.Goals as goal

pub returns-then-lock-eq16 : goal.returns-then-lock-eq16
returns-then-lock-eq16 c =
    let a = c.args in
    let pre = c.requires in
    let zeros : c.clear.new.s ≡ replicate 512 0 = rw pre.0 at c.clear.ensures in
    stream-bare a.lock a.n 512 (rw zeros at c.lay_blocks.ensures)

pub returns : goal.returns
returns c =
    let a = c.args in
    let pre = c.requires in
    c.eight.ensures
    ∙ rw c.nonce_of.ensures (eight-chacha20 a.lock a.n (ne_eqb a.lock.cipher 16 c.if-lock-eq16.false) pre.1)
