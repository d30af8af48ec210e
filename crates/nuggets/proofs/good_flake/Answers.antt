use Rattle.nuggets.proofs.TestLaws.{good_is}
use native.Mathlib.Nat.{mul-le-mul}
use Rattle.layout.proofs.Places.{flake-inside, tag-inside, parts_inside}
use Rattle.layout.proofs.Limits.{inside, limits, lent_small}
use Rattle.layout.specs.Parts.{flake_at, tag_at}
use native.Mathlib.Omega.{arith}
use mathlib.Core.Path.{◌≡◌, ◌∙◌}
use Rattle.nuggets.proofs.good_flake.Goals as goal

pub overflow_add-end : goal.overflow_add-end
overflow_add-end c =
    let a = c.args in
    let s = a.s in
    let lent = c.requires.0 in
    let q = lent_small lent in
    let m = limits s lent.limited in
    let at : c.flake_at-at.result ≡ flake_at s a.g.lock.number a.f = c.flake_at-at.ensures ∙ inside s lent.limited in
    omega (arith, at, flake-inside s a.g.lock.number a.f c.requires.1 c.requires.2, q.few_leaves, q.few_tags, q.few_nuggets, q.few_flakes, m.short, mul-le-mul q.few_tags m.short)

pub overflow_add-tag_end : goal.overflow_add-tag_end
overflow_add-tag_end c =
    let a = c.args in
    let s = a.s in
    let lent = c.requires.0 in
    let q = lent_small lent in
    let m = limits s lent.limited in
    let tag : c.tag_at-tag.result ≡ tag_at s a.g.lock.number a.f = c.tag_at-tag.ensures ∙ inside s lent.limited in
    omega (arith, tag, tag-inside s a.g.lock.number a.f c.requires.1 c.requires.2, q.few_leaves, q.few_tags, q.few_nuggets, q.few_flakes, m.short, mul-le-mul q.few_tags m.short)

pub slice_bounds-tag_of-end : goal.slice_bounds-tag_of-end
slice_bounds-tag_of-end c =
    let a = c.args in
    let s = a.s in
    let lent = c.requires.0 in
    let at : c.flake_at-at.result ≡ flake_at s a.g.lock.number a.f = c.flake_at-at.ensures ∙ inside s lent.limited in
    omega (arith, at, flake-inside s a.g.lock.number a.f c.requires.1 c.requires.2, lent.size)

pub slice_bounds-equal-end : goal.slice_bounds-equal-end
slice_bounds-equal-end c =
    let a = c.args in
    let s = a.s in
    let lent = c.requires.0 in
    let tag : c.tag_at-tag.result ≡ tag_at s a.g.lock.number a.f = c.tag_at-tag.ensures ∙ inside s lent.limited in
    omega (arith, tag, tag-inside s a.g.lock.number a.f c.requires.1 c.requires.2, parts_inside s, lent.size)

pub returns : goal.returns
returns c =
    let a = c.args in
    let s = a.s in
    let lent = c.requires.0 in
    let at : c.flake_at-at.result ≡ flake_at s a.g.lock.number a.f = c.flake_at-at.ensures ∙ inside s lent.limited in
    let tag : c.tag_at-tag.result ≡ tag_at s a.g.lock.number a.f = c.tag_at-tag.ensures ∙ inside s lent.limited in
    good_is s a.vol.now a.g a.f c.flake_at-at.result c.tag_at-tag.result c.equal.ensures c.tag_of-made.ensures at tag
