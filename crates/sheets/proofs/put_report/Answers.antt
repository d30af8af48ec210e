use Rattle.std.proofs.Common.{sym, ap, refl}
use Rattle.answers.specs.Numbers.{accepts}
use Rattle.line.proofs.PutLaws.{put_as}
use Rattle.base.proofs.PickLaws.{yes, no}
use Rattle.sheets.specs.Sheet.{reported_line}
use Rattle.sheets.proofs.put_report.Goals as goal

pub returns-in-Ok : goal.returns-in-Ok
unfolding reported_line
returns-in-Ok c = put_as _ _ (sym (yes _ (ap accepts c.in-Ok.is) refl)) c.report_line.ensures

pub returns-in-Err : goal.returns-in-Err
unfolding reported_line
returns-in-Err c = put_as _ _ (sym (no _ (ap accepts c.in-Err.is) refl)) c.refusal_line.ensures
