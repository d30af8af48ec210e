-- Three cases.
use native.Mathlib.Omega.{arith}
use Rattle.aes.proofs.KeyLaws.{temp_0, temp_4, temp_n}
use Rattle.aes.proofs.RoundTable.temp_at.Goals as goal

pub returns-in-0 : goal.returns-in-0
returns-in-0 c = temp_0 c.args.i c.args.temp c.requires.0 c.requires.1 c.in-0.is c.rotate_right.ensures c.sub_word.ensures

pub returns-in-4 : goal.returns-in-4
returns-in-4 c = temp_4 c.args.i c.args.temp (λ e. omega arith) c.in-4.is c.sub_word-in-4.ensures

pub returns-in_default : goal.returns-in_default
returns-in_default c = temp_n c.args.i c.args.temp (omega arith) (omega arith)
