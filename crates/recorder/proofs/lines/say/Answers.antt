use Rattle.sheets.proofs.SheetLaws.{refusal_short, text_fits}
use lib.Dec.{lit≤}
use Rattle.recorder.proofs.lines.say.Goals as goal

pub slice_bounds-out-end : goal.slice_bounds-out-end
slice_bounds-out-end g c = (text_fits _ (refusal_short _) (lit≤ tt) c.refusal_line-k.ensures).0

pub slice_bounds-put-end : goal.slice_bounds-put-end
slice_bounds-put-end g c = (text_fits _ (refusal_short _) (lit≤ tt) c.refusal_line-k.ensures).1
