use Rattle.laying.proofs.FlakeLaws.{Upto}
use Rattle.laying.proofs.flake.lay_flakes.Given as goal

abbrev pub invariant-loop-f : goal.invariant-loop-f
invariant-loop-f g l = Upto l.fn.d l.initial.vol l.n l.k l.mask (g.S.Source.offset l.new) (g.S.Source.bytes l.new) l.f l.vol
