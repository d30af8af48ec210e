use Rattle.std.proofs.Common.{sym, ap, refl}
use Rattle.answers.specs.Numbers.{accepts}
use Rattle.line.proofs.PutLaws.{put_as, put-none}
use Rattle.base.proofs.PickLaws.{yes, no}
use Rattle.telling.specs.Told.{refusal_text}
use Rattle.telling.proofs.put_refusal.Goals as goal

pub returns-in-Ok : goal.returns-in-Ok
unfolding refusal_text
returns-in-Ok c = put_as _ _ (sym (yes _ (ap accepts c.in-Ok.is) refl)) (put-none _ 0)

pub returns-in-Err : goal.returns-in-Err
unfolding refusal_text
returns-in-Err c = put_as _ _ (sym (no _ (ap accepts c.in-Err.is) refl)) c.refusal_line.ensures
