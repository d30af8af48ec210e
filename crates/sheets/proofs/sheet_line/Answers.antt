use Rattle.std.proofs.Common.{sym, refl, arith}
use Rattle.line.proofs.PutLaws.{put_as}
use Rattle.base.proofs.PickLaws.{no}
use Rattle.sheets.specs.Sheet.{sheet_line}
use Rattle.sheets.proofs.SheetLaws.{over-long}
use Rattle.sheets.proofs.sheet_line.Goals as goal

pub returns-then-read-gt61512 : goal.returns-then-read-gt61512
unfolding sheet_line
returns-then-read-gt61512 c = put_as _ _ (sym (no _ (over-long c.args.read c.args.buffer.now (omega arith) c.if-read-gt61512.true) refl)) c.refusal_line.ensures
