-- Four bytes of the table, loaded as a word.
use mathlib.Core.Path.{◌∙◌}
use native.Mathlib.Omega.{arith}
use Rattle.words.specs.Le.{num}
use Rattle.aes_back.proofs.InvRoundLaws.{rows_code}
use Rattle.aes_back.proofs.Backward.rows.Goals as goal

pub returns : goal.returns
unfolding num
returns c =
    let a = c.args in
    c.from_le_bytes.ensures ∙ omega arith ∙ rows_code a.self.now.bytes.now a.self.now.inverse a.a a.b a.c a.d
