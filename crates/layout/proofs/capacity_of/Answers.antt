use Rattle.layout.specs.Spots.{capacity}
use Rattle.layout.proofs.Limits.{Limits, limits, inside, outside, count-le}
use Rattle.layout.specs.Shape.{in_limits}
use native.Mathlib.Omega.{arith}
use mathlib.Core.Bool.{true}
use mathlib.Core.Path.{◌≡◌, sym, ◌∙◌}
use Rattle.layout.proofs.capacity_of.Goals as goal

pub times-requires : goal.times-requires
times-requires c =
    let s = c.args.s in
    let h : in_limits s ≡ true = sym c.in_limits.ensures ∙ c.if-in_limits.true in
    let l : Limits s = limits s h in
    omega arith

pub times-requires-then-in_limits : goal.times-requires-then-in_limits
times-requires-then-in_limits c =
    let s = c.args.s in
    let h : in_limits s ≡ true = sym c.in_limits.ensures ∙ c.if-in_limits.true in
    let l : Limits s = limits s h in
    omega (arith, c.times.ensures, count-le s l)

pub returns-then-in_limits : goal.returns-then-in_limits
returns-then-in_limits c =
    let s = c.args.s in
    let h : in_limits s ≡ true = sym c.in_limits.ensures ∙ c.if-in_limits.true in
    let l : Limits s = limits s h in
    rw (c.times-then-in_limits.ensures, c.times.ensures) (sym (inside s h))

pub returns-else-in_limits : goal.returns-else-in_limits
returns-else-in_limits c = sym (outside c.args.s (capacity c.args.s) (sym c.in_limits.ensures ∙ c.if-in_limits.false))
