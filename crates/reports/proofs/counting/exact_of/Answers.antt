use Rattle.reports.proofs.ShareLaws.{exact_empty, exact_flakes, exact_none}
use mathlib.Core.Path.{sym}
use Rattle.reports.proofs.counting.exact_of.Goals as goal

pub returns-then-c-ne0 : goal.returns-then-c-ne0
returns-then-c-ne0 c = rw (c.from.ensures, c.from-then-c-ne0.ensures) (sym (exact_flakes c.args.n c.args.c c.if-c-ne0.true))

pub returns-then-n-ne0 : goal.returns-then-n-ne0
returns-then-n-ne0 c = rw (c.from-then-n-ne0.ensures, c.from-then-n-ne0-2.ensures) (sym (exact_empty c.args.n c.args.c c.if-c-ne0.false))

pub returns-else-n-ne0 : goal.returns-else-n-ne0
returns-else-n-ne0 c = sym (exact_none c.args.n c.args.c c.if-c-ne0.false c.if-n-ne0.false)
