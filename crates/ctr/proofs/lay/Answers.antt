-- The words of the key, and the table.
use Rattle.std.proofs.Common.{ℕ, List, ap, ◌∙◌}
use Rattle.ctr.specs.Ctr.{laid_under, counter_mode}
use Rattle.ctr.proofs.lay.Goals as goal

pub returns : goal.returns
unfolding counter_mode
returns c =
    let a = c.args in
    c.lay_under.ensures ∙ ap (λ (w : List ℕ). laid_under w a.keycount a.number a.d.now) c.expand-w.ensures
