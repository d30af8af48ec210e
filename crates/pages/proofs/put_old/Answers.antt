use Rattle.std.proofs.Common.{sym, ◌∙◌}
use Rattle.line.proofs.PageLaws.{puts_as}
use Rattle.pages.proofs.PageLaws.{old_needed, old-free}
use Rattle.pages.proofs.put_old.Goals as goal

pub returns-then-is_changing : goal.returns-then-is_changing
returns-then-is_changing c = puts_as _ _ (old_needed c.args.d (sym c.is_changing.ensures ∙ c.if-is_changing.true)) c.put.ensures

pub returns-else-is_changing : goal.returns-else-is_changing
returns-else-is_changing c = puts_as _ _ (old-free c.args.d (sym c.is_changing.ensures ∙ c.if-is_changing.false)) c.put-else-is_changing.ensures
