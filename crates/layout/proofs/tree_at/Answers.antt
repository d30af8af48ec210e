use Rattle.layout.specs.Parts.{tree_at}
use Rattle.layout.proofs.Limits.{Limits, limits, inside, outside, count-le}
use Rattle.layout.specs.Shape.{in_limits}
use native.Mathlib.Omega.{arith}
use mathlib.Core.Bool.{true}
use mathlib.Core.Path.{◌≡◌, sym, ◌∙◌}
use Rattle.layout.proofs.tree_at.Goals as goal

pub times-requires : goal.times-requires
times-requires c =
    let s = c.args.s in
    let h : in_limits s ≡ true = sym c.in_limits.ensures ∙ c.if-in_limits.true in
    let l : Limits s = limits s h in
    omega arith

pub overflow_mul-result : goal.overflow_mul-result
overflow_mul-result c =
    let s = c.args.s in
    let h : in_limits s ≡ true = sym c.in_limits.ensures ∙ c.if-in_limits.true in
    let l : Limits s = limits s h in
    omega (arith, c.times.ensures, count-le s l)

pub overflow_add-result : goal.overflow_add-result
overflow_add-result c =
    let s = c.args.s in
    let h : in_limits s ≡ true = sym c.in_limits.ensures ∙ c.if-in_limits.true in
    let l : Limits s = limits s h in
    omega (arith, c.times.ensures, count-le s l, c.tags_at.ensures ∙ inside s h)

pub returns-then-in_limits : goal.returns-then-in_limits
returns-then-in_limits c =
    let s = c.args.s in
    let h : in_limits s ≡ true = sym c.in_limits.ensures ∙ c.if-in_limits.true in
    let l : Limits s = limits s h in
    rw (c.times.ensures, c.tags_at.ensures, inside s h) (sym (inside s h))

pub returns-else-in_limits : goal.returns-else-in_limits
returns-else-in_limits c = sym (outside c.args.s (tree_at c.args.s) (sym c.in_limits.ensures ∙ c.if-in_limits.false))
