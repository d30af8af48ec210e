use Rattle.line.proofs.PageLaws.{puts_then}
use Rattle.line.proofs.Page.put_place.Goals as goal

pub returns-in-Flake : goal.returns-in-Flake
returns-in-Flake c = rw c.in-Flake.is (puts_then _ _ c.put_field-in-Flake.ensures c.put_field-in-Flake-2.ensures)
