-- The hash of the pieces is the hash of the message, for a key of 32 bytes.
use mathlib.Core.Path.{◌∙◌}
use Rattle.primitives.proofs.Laws.{hashed-keyed}
use borrow.Author.Rules.{rules}
use Rattle.primitives.proofs.ngt_blake2s_keyed.Goals as goal

pub returns : goal.returns
returns c = c.finish.ensures ∙ hashed-keyed _ c.absorb.ensures c.args.key.now c.start_keyed.ensures (search rules)
