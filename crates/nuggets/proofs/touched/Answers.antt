use native.Mathlib.Nat.{div-le_self, le_of_lt, mul-le-mul, mul-le-mul_right}
use Rattle.nuggets.proofs.TouchLaws.{touched-range, touched_none}
use Rattle.layout.proofs.Limits.{limits, small}
use native.Mathlib.Omega.{arith}
use mathlib.Core.Path.{◌∙◌}
use Rattle.nuggets.proofs.touched.Goals as goal

pub overflow_mul-base : goal.overflow_mul-base
overflow_mul-base c =
    let a = c.args in
    let l = limits a.s c.requires.0 in
    let q = small a.s l in
    omega (arith, mul-le-mul_right a.s.p (le_of_lt c.requires.3), q.few_tags)

pub overflow_add-last : goal.overflow_add-last
overflow_add-last c =
    let a = c.args in
    let l = limits a.s c.requires.0 in
    let q = small a.s l in
    omega (arith, c.requires.2, mul-le-mul q.few_tags l.short)

pub nonzero_div-last : goal.nonzero_div-last
nonzero_div-last c =
    let a = c.args in
    let l = limits a.s c.requires.0 in
    omega (arith, l.wide)

pub returns-then-last-base : goal.returns-then-last-base
returns-then-last-base c =
    let a = c.args in
    let l = limits a.s c.requires.0 in
    touched_none a.s a.o a.len a.n l c.requires.1 c.if-last-base.true

pub nonzero_div-o : goal.nonzero_div-o
nonzero_div-o c =
    let a = c.args in
    let l = limits a.s c.requires.0 in
    omega (arith, l.wide)

pub overflow_sub-count : goal.overflow_sub-count
overflow_sub-count c =
    let a = c.args in
    let l = limits a.s c.requires.0 in
    omega (arith, l.flakes)

pub overflow_cast-from : goal.overflow_cast-from
overflow_cast-from c =
    let a = c.args in
    let l = limits a.s c.requires.0 in
    let q = small a.s l in
    omega (arith, c.saturating_sub-from.ensures, c.requires.2, c.requires.1, mul-le-mul q.few_tags l.short, div-le_self a.o a.s.f)

pub returns : goal.returns
returns c =
    let a = c.args in
    let l = limits a.s c.requires.0 in
    c.range.ensures ∙ touched-range a.s a.o a.len a.n l c.requires.1 _ _ c.saturating_sub-from.ensures c.min-to.ensures c.if-last-base.false
