use mathlib.Core.Path.{refl}
use Rattle.field.specs.Tables.{inv_sbox_table}
use Rattle.aes_back.proofs.inv_sbox.Goals as goal

-- The two tables are the same numbers.
pub returns : goal.returns
unfolding inv_sbox_table
returns c = refl
