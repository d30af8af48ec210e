use borrow.Author.Tests.{le-ltb}
use mathlib.Core.Path.{refl, sym, ◌∙◌}
use native.Mathlib.Omega.{arith}
use Rattle.records.specs.Journal.{bit}
use Rattle.records.proofs.BitLaws.{none_above}
use Rattle.records.proofs.has.Goals as goal

pub returns-then-f-lt64 : goal.returns-then-f-lt64
unfolding bit
returns-then-f-lt64 c = refl

pub returns-else-f-lt64 : goal.returns-else-f-lt64
returns-else-f-lt64 c = le-ltb _ _ c.if-f-lt64.false ∙ sym (none_above 64 c.args.journal c.args.f (omega arith) c.if-f-lt64.false)
