use Rattle.keys.proofs.TagLaws.{tagged-first, tagged-later}
use Rattle.keys.proofs.tag_of.Goals as goal

pub returns-then-lock-eq1 : goal.returns-then-lock-eq1
returns-then-lock-eq1 c = tagged-first _ _ _ c.if-lock-eq1.true c.tag_key-t.ensures c.over.ensures

pub returns : goal.returns
returns c =
    tagged-later _ _ _ c.if-lock-eq1.false c.tag_key-t.ensures
    (rw c.name_of-name.ensures at c.tag_laid_out.ensures)
