use Rattle.reports.specs.Stored.{is_flake}
use Rattle.base.proofs.PickLaws.{both-on, both_off}
use borrow.Author.Tests.{lt-ltb, le-ltb}
use mathlib.Core.Path.{refl, sym, ◌∙◌}
use Rattle.reports.proofs.is_flake.Goals as goal

pub returns-then-nugget-d : goal.returns-then-nugget-d
unfolding is_flake
returns-then-nugget-d c = sym (both-on (lt-ltb _ _ c.if-nugget-d.true) refl)

pub returns-else-nugget-d : goal.returns-else-nugget-d
unfolding is_flake
returns-else-nugget-d c = let off = le-ltb _ _ c.if-nugget-d.false in off ∙ sym (both_off _ off)
