use Rattle.line.specs.Pages.{Puts}
use Rattle.pages.specs.Page.{present_flakes, with_signs}
use Rattle.pages.proofs.put_with_signs.Given as goal

abbrev pub invariant-loop-f : goal.invariant-loop-f
invariant-loop-f l = Puts l.initial.page (with_signs (present_flakes l.f l.journal)) l.page
