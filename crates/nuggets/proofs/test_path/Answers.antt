use mathlib.Core.Path.{◌∙◌}
use Rattle.nuggets.proofs.test_path.Goals as goal

pub path-requires : goal.path-requires
path-requires c = rw c.shape_of.ensures (c.requires.0, c.requires.1)

pub returns : goal.returns
returns c = c.path.ensures ∙ rw (c.shape_of.ensures, c.gauge_of.ensures)
