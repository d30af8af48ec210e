use Rattle.std.proofs.Common.{◌∙◌}
use Rattle.blake2s.proofs.ByteLaws.{sets-zeros}
use Rattle.blake2s.proofs.pad.Goals as goal

pub returns : goal.returns
returns c = c.copy.ensures ∙ sets-zeros _ c.requires
