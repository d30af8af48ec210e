use Rattle.opening.specs.Mount.{sealed}
use Rattle.base.specs.Lists.{same, part}
use Prim.Native.Nat.{ℕ}
use mathlib.Core.List.{List}
use mathlib.Core.Path.{◌∙◌, ap}
use Rattle.opening.proofs.seal_stands.Goals as goal

pub returns : goal.returns
unfolding sealed
returns c = c.equal.ensures ∙ ap (λ (h : List ℕ). same (part 72 32 c.args.vol.now) h) c.seal_of.ensures
