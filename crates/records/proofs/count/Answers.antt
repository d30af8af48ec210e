use mathlib.Core.Path.{sym}
use native.Mathlib.Omega.{arith}
use Rattle.records.proofs.CountLaws.{present_ones}
use Rattle.records.proofs.count.Goals as goal

pub returns : goal.returns
returns c = sym (present_ones 64 c.args.journal (omega arith))
