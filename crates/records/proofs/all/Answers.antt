use mathlib.Core.Path.{sym}
use Rattle.records.proofs.MaskLaws.{all_shift, shift_pos, all-full}
use Rattle.records.proofs.all.Goals as goal

pub overflow_sub-result : goal.overflow_sub-result
overflow_sub-result c = shift_pos c.args.p c.if-p-lt64.true

pub returns-then-p-lt64 : goal.returns-then-p-lt64
returns-then-p-lt64 c = all_shift c.args.p c.if-p-lt64.true

pub returns-else-p-lt64 : goal.returns-else-p-lt64
returns-else-p-lt64 c = sym (all-full c.args.p c.if-p-lt64.false)
