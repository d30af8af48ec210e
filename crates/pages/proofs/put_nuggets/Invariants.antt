use Rattle.line.specs.Pages.{Puts}
use Rattle.pages.specs.Page.{nugget_lines}
use Rattle.pages.proofs.put_nuggets.Given as goal

abbrev pub invariant-loop-n : goal.invariant-loop-n
invariant-loop-n l = Puts l.initial.page (nugget_lines l.d l.vol l.n) l.page
