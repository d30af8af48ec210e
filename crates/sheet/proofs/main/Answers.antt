use Rattle.sheets.proofs.SheetLaws.{line-fits}
use lib.Dec.{lit≤}
use Rattle.sheet.proofs.main.Goals as goal

pub slice_bounds-out-end : goal.slice_bounds-out-end
slice_bounds-out-end c = (line-fits _ (lit≤ tt) c.sheet_line-k.ensures).0

pub slice_bounds-write_all-end : goal.slice_bounds-write_all-end
slice_bounds-write_all-end c = (line-fits _ (lit≤ tt) c.sheet_line-k.ensures).1
