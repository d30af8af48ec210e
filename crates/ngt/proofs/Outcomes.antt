-- No second outcome meets the words of a public function: each theorem is over its own `ensures`.
use mathlib.Core.Path.{refl}
use Rattle.base.specs.Outcome.{OneOutcome}
use Rattle.base.proofs.OutcomeLaws.{agree, ◌∥◌}
use Rattle.ngt.proofs as fn
use Rattle.ngt.specs.contracts as said

pub ngt_format : OneOutcome said.ngt_format.ended fn.ngt_format.Reads.Post
ngt_format κs a x y u v p q = (agree p.tells.told q.tells.told, agree p.volume q.volume ∥ refl ∥ refl ∥ refl ∥ refl ∥ refl ∥ refl ∥ agree p.drive q.drive ∥ agree p.tells.shown q.tells.shown ∥ refl)

pub ngt_format_as : OneOutcome said.ngt_format_as.ended fn.ngt_format_as.Reads.Post
ngt_format_as κs a x y u v p q = (agree p.tells.told q.tells.told, agree p.volume q.volume ∥ refl ∥ refl ∥ refl ∥ refl ∥ refl ∥ refl ∥ refl ∥ refl ∥ agree p.drive q.drive ∥ agree p.tells.shown q.tells.shown ∥ refl)

pub ngt_mount : OneOutcome said.ngt_mount.ended fn.ngt_mount.Reads.Post
ngt_mount κs a x y u v p q = (agree p.tells.told q.tells.told, refl ∥ refl ∥ refl ∥ refl ∥ agree p.drive q.drive ∥ agree p.tells.shown q.tells.shown ∥ refl)

pub ngt_read : OneOutcome said.ngt_read.ended fn.ngt_read.Reads.Post
ngt_read κs a x y u v p q = (agree p.tells.told q.tells.told, refl ∥ refl ∥ refl ∥ agree p.bytes q.bytes ∥ agree p.tells.shown q.tells.shown ∥ refl)

pub ngt_report : OneOutcome said.ngt_report.ended fn.ngt_report.Reads.Post
ngt_report κs a x y u v p q = (agree p.tells.told q.tells.told, refl ∥ refl ∥ agree p.numbers q.numbers ∥ agree p.tells.shown q.tells.shown ∥ refl)

pub ngt_stored_flake : OneOutcome said.ngt_stored_flake.ended fn.ngt_stored_flake.Reads.Post
ngt_stored_flake κs a x y u v p q = (agree p.tells.told q.tells.told, refl ∥ refl ∥ refl ∥ refl ∥ agree p.part q.part ∥ agree p.tells.shown q.tells.shown ∥ refl)

pub changing_ngt_begin : OneOutcome said.changing.ngt_begin.ended fn.changing.ngt_begin.Reads.Post
changing_ngt_begin κs a x y u v p q = (agree p.tells.told q.tells.told, agree p.drive q.drive ∥ agree p.volume q.volume ∥ refl ∥ agree p.tells.shown q.tells.shown ∥ refl)

pub changing_ngt_sweep : OneOutcome said.changing.ngt_sweep.ended fn.changing.ngt_sweep.Reads.Post
changing_ngt_sweep κs a x y u v p q = (agree p.tells.told q.tells.told, agree p.drive q.drive ∥ agree p.volume q.volume ∥ refl ∥ agree p.tells.shown q.tells.shown ∥ refl)

pub changing_ngt_finish : OneOutcome said.changing.ngt_finish.ended fn.changing.ngt_finish.Reads.Post
changing_ngt_finish κs a x y u v p q = (agree p.tells.told q.tells.told, agree p.drive q.drive ∥ agree p.volume q.volume ∥ agree p.tells.shown q.tells.shown ∥ refl)

pub changing_ngt_write : OneOutcome said.changing.ngt_write.ended fn.changing.ngt_write.Reads.Post
changing_ngt_write κs a x y u v p q = (agree p.tells.told q.tells.told, agree p.drive q.drive ∥ agree p.volume q.volume ∥ refl ∥ refl ∥ agree p.tells.shown q.tells.shown ∥ refl)

pub ngt_export : OneOutcome said.ngt_export.ended fn.ngt_export.Reads.Post
ngt_export κs a x y u v p q = (agree p.tells.told q.tells.told, refl ∥ refl ∥ refl ∥ refl ∥ agree p.bytes q.bytes ∥ agree p.tells.shown q.tells.shown ∥ refl)

pub changing_ngt_import : OneOutcome said.changing.ngt_import.ended fn.changing.ngt_import.Reads.Post
changing_ngt_import κs a x y u v p q = (agree p.tells.told q.tells.told, agree p.drive q.drive ∥ agree p.volume q.volume ∥ refl ∥ refl ∥ refl ∥ agree p.tells.shown q.tells.shown ∥ refl)

pub changing_ngt_discard : OneOutcome said.changing.ngt_discard.ended fn.changing.ngt_discard.Reads.Post
changing_ngt_discard κs a x y u v p q = (agree p.tells.told q.tells.told, agree p.drive q.drive ∥ agree p.volume q.volume ∥ refl ∥ refl ∥ refl ∥ agree p.tells.shown q.tells.shown ∥ refl)

pub changing_ngt_queue : OneOutcome said.changing.ngt_queue.ended fn.changing.ngt_queue.Reads.Post
changing_ngt_queue κs a x y u v p q = (agree p.tells.told q.tells.told, agree p.drive q.drive ∥ agree p.volume q.volume ∥ refl ∥ refl ∥ agree p.counts q.counts ∥ agree p.tells.shown q.tells.shown ∥ refl)

pub ngt_fleet : OneOutcome said.ngt_fleet.ended fn.ngt_fleet.Reads.Post
ngt_fleet κs a x y u v p q = (agree p.behind q.behind, refl ∥ agree p.stored q.stored ∥ refl)

pub ngt_twins : OneOutcome said.ngt_twins.ended fn.ngt_twins.Reads.Post
ngt_twins κs a x y u v p q = (agree p.tells.told q.tells.told, refl ∥ refl ∥ refl ∥ refl ∥ agree p.first q.first ∥ agree p.second q.second ∥ agree p.length q.length ∥ agree p.tells.shown q.tells.shown ∥ refl)

pub summary_ngt_tally : OneOutcome said.summary.ngt_tally.ended fn.summary.ngt_tally.Reads.Post
summary_ngt_tally κs a x y u v p q = (agree p.tells.told q.tells.told, refl ∥ refl ∥ agree p.numbers q.numbers ∥ agree p.tells.shown q.tells.shown ∥ refl)

pub summary_ngt_summary_build : OneOutcome said.summary.ngt_summary_build.ended fn.summary.ngt_summary_build.Reads.Post
summary_ngt_summary_build κs a x y u v p q = (agree p.tells.told q.tells.told, refl ∥ refl ∥ agree p.bytes q.bytes ∥ agree p.tells.shown q.tells.shown ∥ refl)

pub summary_ngt_summary_renew : OneOutcome said.summary.ngt_summary_renew.ended fn.summary.ngt_summary_renew.Reads.Post
summary_ngt_summary_renew κs a x y u v p q = (agree p.tells.told q.tells.told, refl ∥ refl ∥ agree p.bytes q.bytes ∥ refl ∥ agree p.tells.shown q.tells.shown ∥ refl)

pub summary_ngt_summary_report : OneOutcome said.summary.ngt_summary_report.ended fn.summary.ngt_summary_report.Reads.Post
summary_ngt_summary_report κs a x y u v p q = (agree p.tells.told q.tells.told, refl ∥ refl ∥ refl ∥ agree p.numbers q.numbers ∥ agree p.tells.shown q.tells.shown ∥ refl)

pub lines_ngt_length : OneOutcome said.lines.ngt_length.ended fn.lines.ngt_length.Reads.Post
lines_ngt_length κs a x y u v p q = (agree p q, refl)

pub lines_ngt_capacity : OneOutcome said.lines.ngt_capacity.ended fn.lines.ngt_capacity.Reads.Post
lines_ngt_capacity κs a x y u v p q = (agree p q, refl)

pub lines_ngt_refusal_line : OneOutcome said.lines.ngt_refusal_line.ended fn.lines.ngt_refusal_line.Reads.Post
lines_ngt_refusal_line κs a x y u v p q = (agree p.behind q.behind, refl ∥ agree p.stored q.stored ∥ refl)

pub lines_ngt_sheet_line : OneOutcome said.lines.ngt_sheet_line.ended fn.lines.ngt_sheet_line.Reads.Post
lines_ngt_sheet_line κs a x y u v p q = (agree p.put.behind q.put.behind, refl ∥ refl ∥ agree p.put.stored q.put.stored ∥ agree p.shown q.shown ∥ refl)

pub lines_ngt_nugget_line : OneOutcome said.lines.ngt_nugget_line.ended fn.lines.ngt_nugget_line.Reads.Post
lines_ngt_nugget_line κs a x y u v p q = (agree p.put.behind q.put.behind, refl ∥ refl ∥ refl ∥ agree p.put.stored q.put.stored ∥ agree p.shown q.shown ∥ refl)

pub moves_ngt_move_up : OneOutcome said.moves.ngt_move_up.ended fn.moves.ngt_move_up.Reads.Post
moves_ngt_move_up κs a x y u v p q = (agree p.tells.told q.tells.told, agree p.drive q.drive ∥ refl ∥ agree p.volume q.volume ∥ agree p.tells.shown q.tells.shown ∥ refl)

pub moves_ngt_move_down : OneOutcome said.moves.ngt_move_down.ended fn.moves.ngt_move_down.Reads.Post
moves_ngt_move_down κs a x y u v p q = (agree p.tells.told q.tells.told, agree p.drive q.drive ∥ refl ∥ agree p.volume q.volume ∥ agree p.tells.shown q.tells.shown ∥ refl)
