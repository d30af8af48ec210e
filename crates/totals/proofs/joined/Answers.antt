use Rattle.totals.proofs.FleetLaws.{sums_fit}
use Rattle.totals.proofs.joined.Goals as goal

pub together-total-requires : goal.together-total-requires
together-total-requires c = sums_fit c.args.f c.args.t c.requires.0 c.requires.1 c.requires.2
