use Rattle.standings.specs.Standing.{standing_in}
use Rattle.standings.proofs.told_in.Goals as goal

pub returns : goal.returns
unfolding standing_in
returns c =
    λ i. record { n = c.field.ensures i; counts = record { moved = c.field-2.ensures i; flakes = c.field-3.ensures i; done = c.field-4.ensures i } }
