use Rattle.base.proofs.PickLaws.{yes, no}
use borrow.Author.Tests.{lt-ltb, le-ltb}
use native.Mathlib.Omega.{arith}
use mathlib.Core.Path.{refl, sym}
use Rattle.reports.proofs.counting.cap_of.Goals as goal

pub returns-then-c-n : goal.returns-then-c-n
returns-then-c-n c = sym (yes _ (lt-ltb c.args.c.moved c.args.n (omega arith)) refl)

pub returns-else-c-n : goal.returns-else-c-n
returns-else-c-n c = sym (no _ (le-ltb c.args.c.moved c.args.n (omega arith)) refl)
