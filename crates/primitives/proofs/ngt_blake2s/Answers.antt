-- The hash of the pieces is the hash of the message.
use mathlib.Core.Path.{◌∙◌}
use Rattle.primitives.proofs.Laws.{hashed}
use Rattle.primitives.proofs.ngt_blake2s.Goals as goal

pub returns : goal.returns
returns c = c.finish.ensures ∙ hashed _ c.absorb.ensures c.start.ensures
