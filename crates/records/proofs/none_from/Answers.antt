use native.Mathlib.Omega.{arith}
use Rattle.records.proofs.RecordLaws.{none_shift, none-wide}
use Rattle.records.proofs.none_from.Goals as goal

pub returns-then-p-lt64 : goal.returns-then-p-lt64
returns-then-p-lt64 c = none_shift c.args.p c.args.journal

pub returns-else-p-lt64 : goal.returns-else-p-lt64
returns-else-p-lt64 c = none-wide c.args.p c.args.journal (omega arith) c.if-p-lt64.false
