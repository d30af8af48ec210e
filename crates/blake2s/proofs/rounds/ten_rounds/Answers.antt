use Rattle.std.proofs.Common.{refl, add-one}
use Rattle.base.specs.Lists.{every}
use Rattle.blake2s.specs.Compress.{rounds, sigma}
use Rattle.blake2s.proofs.RoundLaws.{table_order}
use Rattle.blake2s.proofs.rounds.ten_rounds.Goals as goal

pub loop-s-init : goal.loop-s-init
unfolding rounds every
loop-s-init c = (refl, refl)

pub one_round-next-requires : goal.one_round-next-requires
one_round-next-requires c = table_order _ c.loop-s.invariant.1 c.loop-s.s-index

pub loop-s-preserved : goal.loop-s-preserved
unfolding rounds sigma
loop-s-preserved c = (rw (add-one, ← c.loop-s.invariant.0) c.one_round-next.ensures, c.loop-s.invariant.1)
