use Rattle.std.proofs.Common.{sym, ◌∙◌}
use Rattle.fleets.proofs.GatherLaws.{found_possible, with_yes, with_none, with_many}
use Rattle.fleets.proofs.with_line.Goals as goal

pub joined-requires : goal.joined-requires
joined-requires c = (c.if-f-ge-MOST.false, c.requires.1, found_possible c.args.line.now _ (sym c.found_in.ensures ∙ c.in-Some.is))

pub returns-in-Some : goal.returns-in-Some
returns-in-Some c = with_yes c.args.f c.args.line.now c.if-f-ge-MOST.false (sym c.found_in.ensures ∙ c.in-Some.is) c.joined.ensures

pub returns-in-None : goal.returns-in-None
returns-in-None c = with_none c.args.f c.args.line.now (sym c.found_in.ensures ∙ c.in-None.is)

pub returns-then-f-ge-MOST : goal.returns-then-f-ge-MOST
returns-then-f-ge-MOST c = with_many c.args.f c.args.line.now c.if-f-ge-MOST.true
