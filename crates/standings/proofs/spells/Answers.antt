use Rattle.std.proofs.Common.{arith, ap, ◌∙◌, List, ℕ}
use Rattle.base.specs.Lists.{same}
use Rattle.standings.proofs.StandingLaws.{standing_le, put_first}
use Rattle.standings.proofs.spells.Goals as goal

pub written-requires : goal.written-requires
written-requires c = omega (arith, c.put_standing.ensures.put.behind, c.put_standing.ensures.long, standing_le c.args.t)

pub returns : goal.returns
returns c =
    let text = put_first _ _ _ (omega (arith, standing_le c.args.t)) c.put_standing.ensures.put in
    c.equal.ensures ∙ ap (λ (l : List ℕ). same l c.args.line.now) (c.written.ensures.0 ∙ text)
