use Rattle.summaries.proofs.EntryLaws.{entry_loads}
use Rattle.summaries.proofs.load.Goals as goal

pub returns : goal.returns
returns c = entry_loads c.args.sum.now c.args.i c.entry_at-at.ensures c.load32.ensures c.load32-2.ensures c.load32-3.ensures
