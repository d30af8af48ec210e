use Rattle.std.proofs.Common.{sym, ◌∙◌, arith}
use Rattle.line.proofs.PutLaws.{put_as}
use Rattle.fleets.proofs.GatherLaws.{gathered_summed}
use Rattle.fleets.proofs.LineLaws.{printed_open, printed-none, printed_closed}
use Rattle.fleets.proofs.fleet_line.Goals as goal

pub put_closed-requires : goal.put_closed-requires
put_closed-requires c = (omega arith, gathered_summed c.args.input.now _ (sym c.gather.ensures ∙ c.in-Ok.is))

pub returns-in-Err : goal.returns-in-Err
returns-in-Err c = put_as _ _ (printed_open c.args.input.now _ c.gather.ensures c.in-Err.is) c.put_open.ensures

pub returns-in-Ok : goal.returns-in-Ok
returns-in-Ok c = put_as _ _ (printed-none c.args.input.now _ c.gather.ensures c.in-Ok.is c.if-f-eq0.true) c.put_open-in-Ok.ensures

pub returns-in-Ok-2 : goal.returns-in-Ok-2
returns-in-Ok-2 c = put_as _ _ (printed_closed c.args.input.now _ c.gather.ensures c.in-Ok.is c.if-f-eq0.false) c.put_closed.ensures
