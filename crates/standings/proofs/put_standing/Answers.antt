use Rattle.standings.specs.Standing.{standing_text}
use Rattle.line.specs.Lines.{report_text}
use Rattle.line.proofs.PageLaws.{puts_as}
use mathlib.Core.Path.{ap}
use Prim.Native.Nat.{ℕ, ◌-◌}
use Rattle.standings.proofs.put_standing.Goals as goal

pub returns : goal.returns
unfolding standing_text
returns c =
    let t = c.args.t in
    puts_as _ _ (ap (λ (h : ℕ). report_text t.n t.counts.moved (t.n - t.counts.moved) t.counts.flakes h t.counts.done) c.share_of-share.ensures) c.report_text.ensures
