use Rattle.std.proofs.Common.{ap, ◌∙◌}
use lib.Seq.{sets}
use Rattle.reports.specs.declared.told.Counts.{Counts}
use Rattle.summaries.specs.Entries.{entry_at, entry_bytes, put_entry}
use Rattle.summaries.proofs.put.Goals as goal

pub returns : goal.returns
unfolding put_entry
returns c =
    let a = c.args in
    c.store.ensures ∙ ap (λ (x : Counts). sets a.sum.now (entry_at a.i) (entry_bytes x)) c.beneath-c.ensures
