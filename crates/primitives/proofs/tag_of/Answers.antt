-- Three calls; the tag of the pieces is the tag of the message, for a key of 32 bytes.
use mathlib.Core.Path.{◌∙◌}
use Rattle.primitives.proofs.Laws.{tagged}
use borrow.Author.Rules.{rules}
use Rattle.primitives.proofs.tag_of.Goals as goal

pub returns : goal.returns
returns c =
    let key = c.args.key in
    c.finish.ensures
    ∙ tagged key _ c.start-s.ensures c.absorb-t.ensures (search rules) (search rules)
