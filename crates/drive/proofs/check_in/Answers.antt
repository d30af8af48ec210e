use Rattle.drive.specs.declared.State.{State}
use Rattle.drive.specs.Head.{check_for}
use mathlib.Core.Path.{sym, ◌∙◌, ap}
use Rattle.drive.proofs.check_in.Goals as goal

pub returns-in-Changing : goal.returns-in-Changing
returns-in-Changing c = c.check_of.ensures ∙ sym (ap (λ (s : State). check_for s c.args.d.old c.args.d.salt c.args.d.epoch) c.in-Changing.is)
