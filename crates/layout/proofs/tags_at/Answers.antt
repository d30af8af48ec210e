use Rattle.layout.specs.Parts.{tags_at}
use Rattle.layout.proofs.Limits.{Limits, limits, inside, outside, width-le}
use Rattle.layout.specs.Shape.{in_limits}
use native.Mathlib.Omega.{arith}
use mathlib.Core.Bool.{true}
use mathlib.Core.Path.{◌≡◌, sym, ◌∙◌}
use Rattle.layout.proofs.tags_at.Goals as goal

pub times-requires : goal.times-requires
times-requires c = omega (arith, c.width_of.ensures, width-le c.args.s)

pub overflow_add-result : goal.overflow_add-result
overflow_add-result c =
    let s = c.args.s in
    let h : in_limits s ≡ true = sym c.in_limits.ensures ∙ c.if-in_limits.true in
    let l : Limits s = limits s h in
    omega (arith, rw c.width_of.ensures at c.times.ensures, l.records)

pub returns-then-in_limits : goal.returns-then-in_limits
returns-then-in_limits c =
    let s = c.args.s in
    let h : in_limits s ≡ true = sym c.in_limits.ensures ∙ c.if-in_limits.true in
    rw (c.times.ensures, c.width_of.ensures) (sym (inside s h))

pub returns-else-in_limits : goal.returns-else-in_limits
returns-else-in_limits c = sym (outside c.args.s (tags_at c.args.s) (sym c.in_limits.ensures ∙ c.if-in_limits.false))
