use Rattle.sheets.proofs.SheetLaws.{report-short, text_fits}
use lib.Dec.{lit≤}
use Rattle.recorder.proofs.lines.show.Goals as goal

pub slice_bounds-out-end : goal.slice_bounds-out-end
slice_bounds-out-end g c = (text_fits _ (report-short _ _ _ _ _ _) (lit≤ tt) c.report_line-k.ensures).0

pub slice_bounds-put-end : goal.slice_bounds-put-end
slice_bounds-put-end g c = (text_fits _ (report-short _ _ _ _ _ _) (lit≤ tt) c.report_line-k.ensures).1
