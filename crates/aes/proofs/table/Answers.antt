use mathlib.Core.Path.{refl}
use Rattle.aes.specs.Tables.{round_table}
use Rattle.aes.proofs.table.Goals as goal

-- The two tables are the same numbers.
pub returns : goal.returns
unfolding round_table
returns c = refl
