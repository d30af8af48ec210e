use Rattle.opening.specs.Mount.{checked}
use Rattle.base.specs.Lists.{same, part}
use Prim.Native.Nat.{ℕ}
use mathlib.Core.List.{List}
use mathlib.Core.Path.{◌∙◌, ap}
use Rattle.opening.proofs.check_stands.Goals as goal

pub returns : goal.returns
unfolding checked
returns c = c.equal.ensures ∙ ap (λ (h : List ℕ). same (part 40 32 c.args.vol.now) h) c.check_in.ensures
