use mathlib.Core.Path.{◌≡◌}
use Rattle.moving.specs.Carry.{tags_to}
use Rattle.moving.proofs.carry.carry_tags.Given as goal

abbrev pub invariant-loop-f : goal.invariant-loop-f
invariant-loop-f l = l.second ≡ tags_to l.s l.t l.vol l.g l.f l.initial.second
