use Rattle.std.proofs.Common.{rules}
use borrow.Author.Tests.{tests}
use lib.Dec.{eqb}
use Rattle.std.proofs.lemmas.Iterator.{YieldsList-from_slice}
use Rattle.std.proofs.lemmas.Iterator.Search.{position_from_yields_List}
use Rattle.standings.proofs.ReadingLaws.{position_is}
use Rattle.standings.proofs.reading.first.Goals as goal

pub returns : goal.returns
returns c =
    let x = c.args in
    position_is x.mark x.text.now
    (position_from_yields_List (λ b. eqb b x.mark) _ _ _ c.position.ensures.ran (YieldsList-from_slice x.text.now c.iter.ensures.rest) (λ x b q k. search (rules, tests)))
    c.unwrap_or.ensures
