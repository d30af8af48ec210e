use Rattle.reports.specs.Counts.{share_of}
use Rattle.reports.proofs.counting.share_of.Goals as goal

pub returns : goal.returns
unfolding share_of
returns c = rw (c.min.ensures, c.from.ensures, c.cap_of.ensures, c.exact_of.ensures)
