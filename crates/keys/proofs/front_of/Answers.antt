use mathlib.Core.Path.{◌∙◌}
use Rattle.keys.proofs.LaidOut.{front_is}
use Rattle.keys.proofs.front_of.Goals as goal

pub returns : goal.returns
returns c =
    c.copy.ensures ∙ front_is c.args.ad.now c.requires.0 c.requires.1
