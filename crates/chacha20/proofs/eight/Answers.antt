use Rattle.chacha20.proofs.LaneLaws.{blocks-keystream}
use Rattle.std.proofs.Common.{◌∙◌}
use Rattle.chacha20.proofs.eight.Goals as goal

pub returns : goal.returns
returns c = c.eight_blocks.ensures ∙ rw c.start_state.ensures (blocks-keystream _ _ _ 8)
