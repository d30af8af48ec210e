use native.Mathlib.Nat.{mul-le-mul, le_of_lt}
use Rattle.layout.specs.Spots.{offset_at}
use Rattle.layout.proofs.Limits.{Limits, limits, inside, outside}
use Rattle.layout.specs.Shape.{in_limits}
use native.Mathlib.Omega.{arith}
use mathlib.Core.Bool.{true}
use mathlib.Core.Path.{◌≡◌, sym, ◌∙◌}
use Rattle.layout.proofs.offset_of.Goals as goal

pub index_of-requires : goal.index_of-requires
index_of-requires c =
    let s = c.args.s in
    let h : in_limits s ≡ true = sym c.in_limits.ensures ∙ c.if-in_limits.true in
    let l : Limits s = limits s h in
    omega arith

pub times-requires : goal.times-requires
times-requires c =
    let s = c.args.s in
    let h : in_limits s ≡ true = sym c.in_limits.ensures ∙ c.if-in_limits.true in
    let l : Limits s = limits s h in
    omega (arith, c.index_of.ensures.1)

pub overflow_add-result : goal.overflow_add-result
overflow_add-result c =
    let s = c.args.s in
    let h : in_limits s ≡ true = sym c.in_limits.ensures ∙ c.if-in_limits.true in
    let l : Limits s = limits s h in
    omega (arith, c.times.ensures, mul-le-mul (le_of_lt c.index_of.ensures.1) l.short)

pub returns-then-in_limits : goal.returns-then-in_limits
returns-then-in_limits c =
    let s = c.args.s in
    let h : in_limits s ≡ true = sym c.in_limits.ensures ∙ c.if-in_limits.true in
    let l : Limits s = limits s h in
    rw (c.times.ensures, c.index_of.ensures.0) (sym (inside s h))

pub returns-else-in_limits : goal.returns-else-in_limits
returns-else-in_limits c = sym (outside c.args.s (offset_at c.args.s c.args.n c.args.f c.args.b) (sym c.in_limits.ensures ∙ c.if-in_limits.false))
