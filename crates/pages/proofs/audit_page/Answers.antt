use Rattle.std.proofs.Common.{arith}
use Rattle.line.proofs.PutLaws.{put_as}
use Rattle.sheets.proofs.SheetLaws.{over-long}
use Rattle.pages.proofs.MountLaws.{page_refused}
use Rattle.pages.proofs.audit_page.Goals as goal

pub returns-then-read-gt61512 : goal.returns-then-read-gt61512
returns-then-read-gt61512 c = put_as _ _ (page_refused _ (over-long c.args.read c.args.buffer.now (omega arith) c.if-read-gt61512.true)) c.refusal_line.ensures
