use Rattle.reports.specs.Counts.{counts_in}
use mathlib.Core.Path.{◌≡◌}
use Rattle.reports.proofs.counting.counts_in.Given as goal

abbrev pub invariant-loop-i : goal.invariant-loop-i
invariant-loop-i l = l.c ≡ counts_in l.s 64 l.epoch l.vol l.i
