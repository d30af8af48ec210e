use Rattle.summaries.proofs.EntryLaws.{entry_stores_lem}
use Rattle.summaries.proofs.store.Goals as goal

pub returns : goal.returns
returns c = entry_stores_lem c.args.sum.now c.args.i c.args.c c.entry_at-at.ensures c.store32.ensures c.store32-2.ensures c.store32-3.ensures
