use Rattle.layout.proofs.Height.{leaves-some}
use Rattle.layout.specs.Parts.{flakes_at}
use Rattle.layout.proofs.Limits.{Limits, limits, inside, outside, count-le, leaves-le}
use Rattle.layout.specs.Shape.{in_limits}
use native.Mathlib.Omega.{arith}
use mathlib.Core.Bool.{true}
use mathlib.Core.Path.{◌≡◌, sym, ◌∙◌}
use Rattle.layout.proofs.flakes_at.Goals as goal

pub overflow_mul-result : goal.overflow_mul-result
overflow_mul-result c =
    let s = c.args.s in
    let h : in_limits s ≡ true = sym c.in_limits.ensures ∙ c.if-in_limits.true in
    let l : Limits s = limits s h in
    omega (arith, c.leaves_of.ensures, leaves-le s l)

pub overflow_sub-result : goal.overflow_sub-result
overflow_sub-result c =
    let s = c.args.s in
    let h : in_limits s ≡ true = sym c.in_limits.ensures ∙ c.if-in_limits.true in
    let l : Limits s = limits s h in
    omega (arith, c.leaves_of.ensures, leaves-le s l, leaves-some s.n)

pub overflow_mul-result-then-in_limits : goal.overflow_mul-result-then-in_limits
overflow_mul-result-then-in_limits c =
    let s = c.args.s in
    let h : in_limits s ≡ true = sym c.in_limits.ensures ∙ c.if-in_limits.true in
    let l : Limits s = limits s h in
    omega (arith, c.leaves_of.ensures, leaves-le s l)

pub overflow_add-result : goal.overflow_add-result
overflow_add-result c =
    let s = c.args.s in
    let h : in_limits s ≡ true = sym c.in_limits.ensures ∙ c.if-in_limits.true in
    let l : Limits s = limits s h in
    omega (arith, c.leaves_of.ensures, leaves-le s l, count-le s l, c.tree_at.ensures ∙ inside s h)

pub returns-then-in_limits : goal.returns-then-in_limits
returns-then-in_limits c =
    let s = c.args.s in
    let h : in_limits s ≡ true = sym c.in_limits.ensures ∙ c.if-in_limits.true in
    let l : Limits s = limits s h in
    rw (c.leaves_of.ensures, c.tree_at.ensures, inside s h) (sym (inside s h))

pub returns-else-in_limits : goal.returns-else-in_limits
returns-else-in_limits c = sym (outside c.args.s (flakes_at c.args.s) (sym c.in_limits.ensures ∙ c.if-in_limits.false))
