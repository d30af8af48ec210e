use Rattle.standings.proofs.StandingLaws.{possible_is, found_some, found_none}
use mathlib.Core.Path.{sym, ◌∙◌}
use Rattle.standings.proofs.found_in.Goals.{then-is_possible, else-is_possible}
use Rattle.standings.proofs.found_in.Goals as goal

pub spells-requires : goal.spells-requires
spells-requires c = (possible_is _ (sym c.is_possible.ensures ∙ c.if-is_possible.true)).moved_few

pub returns : goal.returns
returns c =
    let t = c.told_in-t in
    elim c.if-is_possible.branch [
      | then-is_possible w ↦ found_some c.args.line.now t.ensures (sym c.is_possible.ensures ∙ w.if-is_possible.true) (w.then_some-is ∙ w.spells.ensures) c.then_some.ensures
      | else-is_possible w ↦ found_none c.args.line.now t.ensures (sym c.is_possible.ensures ∙ w.if-is_possible.false) (w.then_some-is ∙ w.if-is_possible.false) c.then_some.ensures
    ]
