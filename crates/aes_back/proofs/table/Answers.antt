use mathlib.Core.Path.{refl}
use Rattle.aes_back.specs.Tables.{inv_round_table}
use Rattle.aes_back.proofs.table.Goals as goal

-- The two tables are the same numbers.
pub returns : goal.returns
unfolding inv_round_table
returns c = refl
