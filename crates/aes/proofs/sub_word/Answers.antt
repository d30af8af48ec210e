-- One word in all four places.
use mathlib.Core.Path.{◌∙◌}
use Rattle.aes.proofs.RoundLaws.{sub_word_code}
use Rattle.aes.proofs.sub_word.Goals as goal

pub returns : goal.returns
returns c = c.rows.ensures ∙ sub_word_code _
