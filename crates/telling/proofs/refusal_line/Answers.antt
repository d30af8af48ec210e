use Rattle.std.proofs.Common.{ap, arith}
use Rattle.line.proofs.PutLaws.{put_as}
use Rattle.telling.specs.Told.{refusal_text}
use Rattle.telling.proofs.ToldLaws.{text_reach}
use Rattle.telling.proofs.refusal_line.Goals as goal

pub overflow_cast-result : goal.overflow_cast-result
overflow_cast-result c = omega (arith, text_reach c.answer_in.result c.put_refusal.ensures)

pub returns : goal.returns
returns c = put_as _ _ (ap refusal_text c.answer_in.ensures) c.put_refusal.ensures
