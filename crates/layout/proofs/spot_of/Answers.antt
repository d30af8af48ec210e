use Rattle.layout.proofs.Limits.{Limits, limits}
use Rattle.layout.specs.Shape.{in_limits}
use native.Mathlib.Omega.{arith}
use mathlib.Core.Bool.{true}
use mathlib.Core.Path.{◌≡◌, sym, refl, ◌∙◌}
use Rattle.layout.proofs.spot_of.Goals as goal

pub nonzero_div-result : goal.nonzero_div-result
nonzero_div-result c =
    let s = c.args.s in
    let h : in_limits s ≡ true = sym c.in_limits.ensures ∙ c.if-in_limits.true in
    let l : Limits s = limits s h in
    omega arith

pub nonzero_div-result-then-in_limits : goal.nonzero_div-result-then-in_limits
nonzero_div-result-then-in_limits c =
    let s = c.args.s in
    let h : in_limits s ≡ true = sym c.in_limits.ensures ∙ c.if-in_limits.true in
    let l : Limits s = limits s h in
    omega arith

pub nonzero_div-result-then-in_limits-2 : goal.nonzero_div-result-then-in_limits-2
nonzero_div-result-then-in_limits-2 c =
    let s = c.args.s in
    let h : in_limits s ≡ true = sym c.in_limits.ensures ∙ c.if-in_limits.true in
    let l : Limits s = limits s h in
    omega arith

pub nonzero_rem-result : goal.nonzero_rem-result
nonzero_rem-result c =
    let s = c.args.s in
    let h : in_limits s ≡ true = sym c.in_limits.ensures ∙ c.if-in_limits.true in
    let l : Limits s = limits s h in
    omega arith

pub nonzero_rem-result-then-in_limits : goal.nonzero_rem-result-then-in_limits
nonzero_rem-result-then-in_limits c =
    let s = c.args.s in
    let h : in_limits s ≡ true = sym c.in_limits.ensures ∙ c.if-in_limits.true in
    let l : Limits s = limits s h in
    omega arith

pub returns-then-in_limits : goal.returns-then-in_limits
returns-then-in_limits c =
    let s = c.args.s in
    let h : in_limits s ≡ true = sym c.in_limits.ensures ∙ c.if-in_limits.true in
    let l : Limits s = limits s h in
    rw h refl

pub returns-else-in_limits : goal.returns-else-in_limits
returns-else-in_limits c = rw (sym c.in_limits.ensures ∙ c.if-in_limits.false) refl
