use Rattle.reports.proofs.CountLaws.{count-one, count_none}
use borrow.Author.Tests.{eq-eqb, ne_eqb}
use Rattle.reports.proofs.counting.count_of.Goals as goal

pub returns-then-moved : goal.returns-then-moved
returns-then-moved c = rw (c.from.ensures, eq-eqb c.args.r.epoch c.args.epoch c.if-moved.true) (count-one 64 c.args.epoch c.args.r c.count-flakes.ensures c.if-moved.true)

pub returns-else-moved : goal.returns-else-moved
returns-else-moved c = rw (c.from.ensures, ne_eqb c.args.r.epoch c.args.epoch c.if-moved.false) (count_none 64 c.args.epoch c.args.r c.count-flakes.ensures c.if-moved.false)
