use Rattle.std.proofs.Common.{◌≡◌, ◌∙◌, arith, rules}
use Rattle.chacha20.proofs.LaneLaws.{each_none, each_more}
use borrow.Author.Rules.{rules}
use Rattle.chacha20.proofs.lanes.wide_rounds.Goals as goal

pub loop-init : goal.loop-init
loop-init c = (search rules, each_none _)

pub loop-preserved : goal.loop-preserved
loop-preserved c =
    let s = c.loop in
    (c.wide_round.ensures.long ∙ s.invariant.0, each_more _ _ _ _ s.invariant.1 c.wide_round.ensures)

pub returns : goal.returns
returns c = let e : c.loop.counter ≡ 10 = omega arith in rw e at c.loop.invariant.1
