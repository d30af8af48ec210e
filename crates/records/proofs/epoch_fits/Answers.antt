use borrow.Author.Tests.{eq-eqb, ne_eqb}
use Rattle.records.proofs.epoch_fits.Goals as goal

pub returns-then-own-gauge : goal.returns-then-own-gauge
returns-then-own-gauge c = rw (eq-eqb _ _ c.if-own-gauge.true)

pub returns-then-gauge : goal.returns-then-gauge
returns-then-gauge c = rw (ne_eqb _ _ c.if-own-gauge.false, c.if-gauge.true)

pub returns-else-gauge : goal.returns-else-gauge
returns-else-gauge c = rw (ne_eqb _ _ c.if-own-gauge.false, c.if-gauge.false)
