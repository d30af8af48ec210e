use Rattle.reports.specs.declared.told.Counts.{Counts}
use Rattle.reports.proofs.CountLaws.{counts-moved}
use mathlib.Core.Path.{ap, ◌∙◌}
use Rattle.reports.proofs.moved_in.Goals as goal

pub returns : goal.returns
returns c = ap (λ (x : Counts). x.moved) c.counts_in.ensures ∙ counts-moved c.args.s 64 c.args.epoch c.args.vol.now c.args.s.n
