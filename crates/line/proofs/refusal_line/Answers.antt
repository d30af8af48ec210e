use Rattle.std.proofs.Common.{rules}
use Rattle.line.proofs.PutLaws.{refusal_text_lem}
use Rattle.line.proofs.PageLaws.{puts_then, puts_as, puts_told}
use Rattle.line.proofs.refusal_line.Goals as goal

pub returns : goal.returns
returns c =
    let all = puts_then _ _ (puts_then _ _ (puts_then _ _ (puts_then _ _ c.put_field.ensures c.put.ensures) c.put_class.ensures) c.put_carried.ensures) c.put-2.ensures in
    puts_told _ (puts_as _ _ (refusal_text_lem c.args.answer c.number-number.result c.class_of.result c.carried_by.result c.number-number.ensures c.class_of.ensures c.carried_by.ensures) all) (λ e. search rules)
