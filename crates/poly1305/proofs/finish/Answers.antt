use mathlib.Core.Path.{ap, sym, ◌∙◌}
use Prim.Native.Nat.{ℕ, ◌+◌}
use Rattle.words.specs.Le.{le}
use Rattle.limbs.specs.Limbs.{value}
use Rattle.limbs.proofs.Digits.{limbs_below}
use Rattle.poly1305.specs.State.{finished}
use Rattle.poly1305.proofs.Mac.{ended-empty, ended_by}
use borrow.Author.Rules.{rules}
use Rattle.poly1305.proofs.finish.Goals as goal

pub returns-then-fill-eq0 : goal.returns-then-fill-eq0
unfolding finished
returns-then-fill-eq0 c = let s = c.args.a.state in
    c.total.ensures ∙ ap (λ (z : ℕ). le 16 (z + value s.s)) (sym (ended-empty s c.if-fill-eq0.true))

pub total-requires-2 : goal.total-requires-2
total-requires-2 c = (rw c.last.ensures (limbs_below _), search rules)

pub returns : goal.returns
unfolding finished
returns c = let s = c.args.a.state in
    c.total-2.ensures
    ∙ ap (λ (z : ℕ). le 16 (z + value s.s))
    (ended_by s c.copy.new.s c.last.result c.args.a.good c.if-fill-eq0.false c.copy.ensures c.last.ensures)
