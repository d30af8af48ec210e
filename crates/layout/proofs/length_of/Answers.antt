use Rattle.layout.specs.Parts.{length_of}
use Rattle.layout.proofs.Limits.{Limits, limits, inside, outside, count-le, capacity-le, leaves-le}
use Rattle.layout.specs.Shape.{in_limits}
use native.Mathlib.Omega.{arith}
use mathlib.Core.Bool.{true}
use mathlib.Core.Path.{◌≡◌, sym, ◌∙◌}
use Rattle.layout.proofs.length_of.Goals as goal

pub overflow_add-result : goal.overflow_add-result
overflow_add-result c =
    let s = c.args.s in
    let h : in_limits s ≡ true = sym c.in_limits.ensures ∙ c.if-in_limits.true in
    let l : Limits s = limits s h in
    omega (arith, capacity-le s l, leaves-le s l, count-le s l, c.capacity_of.ensures ∙ inside s h, c.flakes_at.ensures ∙ inside s h)

pub returns-then-in_limits : goal.returns-then-in_limits
returns-then-in_limits c =
    let s = c.args.s in
    let h : in_limits s ≡ true = sym c.in_limits.ensures ∙ c.if-in_limits.true in
    let l : Limits s = limits s h in
    rw (c.capacity_of.ensures, inside s h, c.flakes_at.ensures, inside s h) (sym (inside s h))

pub returns-else-in_limits : goal.returns-else-in_limits
returns-else-in_limits c = sym (outside c.args.s (length_of c.args.s) (sym c.in_limits.ensures ∙ c.if-in_limits.false))
