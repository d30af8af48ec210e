use mathlib.Core.Path.{◌≡◌}
use Rattle.moving.specs.Carry.{carried_to}
use Rattle.moving.proofs.carry.carry_all.Given as goal

abbrev pub invariant-loop-n : goal.invariant-loop-n
invariant-loop-n l = l.second ≡ carried_to l.d l.t l.vol l.n l.initial.second
