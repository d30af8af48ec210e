use Rattle.std.proofs.Common.{sym, ◌∙◌}
use Rattle.line.proofs.PageLaws.{puts_as}
use Rattle.pages.proofs.PageLaws.{key_new, key-present, key-old}
use Rattle.pages.proofs.put_key.Goals as goal

pub returns-then-epoch-d : goal.returns-then-epoch-d
returns-then-epoch-d c = let a = c.args in puts_as _ _ (key-old a.d a.epoch c.if-epoch-d.true) c.put.ensures

pub returns-then-is_changing : goal.returns-then-is_changing
returns-then-is_changing c = let a = c.args in puts_as _ _ (key_new a.d a.epoch c.if-epoch-d.false (sym c.is_changing.ensures ∙ c.if-is_changing.true)) c.put-then-is_changing.ensures

pub returns-else-is_changing : goal.returns-else-is_changing
returns-else-is_changing c = let a = c.args in puts_as _ _ (key-present a.d a.epoch c.if-epoch-d.false (sym c.is_changing.ensures ∙ c.if-is_changing.false)) c.put-else-is_changing.ensures
