use mathlib.Core.Path.{◌≡◌}
use borrow.Author.Rules.{rules}
use Rattle.keys.proofs.lay_stream.Goals as goal

pub returns-then-skip-eq0 : goal.returns-then-skip-eq0
returns-then-skip-eq0 c =
    let e : c.args.skip ≡ 0 = search rules in
    rw e c.lay_blocks.ensures

pub returns-else-skip-eq0 : goal.returns-else-skip-eq0
returns-else-skip-eq0 c = c.lay_skewed.ensures
