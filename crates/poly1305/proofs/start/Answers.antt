use Rattle.poly1305.proofs.StateLaws.{starts, start-good}
use Rattle.poly1305.proofs.start.Goals as goal

pub invariant_of-result : goal.invariant_of-result
invariant_of-result c = record { good = rw (starts c.args.key c.clamped.ensures c.pack.ensures c.number.ensures) (start-good c.args.key) }

pub returns : goal.returns
returns c = starts c.args.key c.clamped.ensures c.pack.ensures c.number.ensures
