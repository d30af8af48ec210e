use Rattle.base.proofs.PartLaws.{copied}
use Rattle.nuggets.proofs.PieceLaws.{piece-present, piece_absent}
use Prim.Native.Nat.{ℕ, ◌+◌, ◌≤◌}
use mathlib.Core.List.{List}
use Rattle.keys.specs.Pads.{pad_of}
use Rattle.words.specs.Xor.{xorl}
use Rattle.layout.proofs.Places.{flake-inside}
use Rattle.layout.proofs.Limits.{inside, limits, lent_small}
use Rattle.layout.specs.Parts.{flake_at}
use lib.ListN.{length, drop}
use native.Mathlib.Nat.{mul-le-mul}
use native.Mathlib.Omega.{arith}
use mathlib.Core.Path.{◌≡◌, refl, sym, ◌∙◌, ap}
use Rattle.nuggets.proofs.piece.Goals as goal

pub overflow_add-at : goal.overflow_add-at
overflow_add-at c =
    let a = c.args in
    let s = a.s in
    let lent = c.requires.0 in
    let q = lent_small lent in
    let m = limits s lent.limited in
    let at : c.flake_at.result ≡ flake_at s a.g.lock.number a.f = c.flake_at.ensures ∙ inside s lent.limited in
    let room = flake-inside s a.g.lock.number a.f c.requires.1 c.requires.2 in
    omega (arith, at, room, c.requires.3, q.few_leaves, q.few_tags, q.few_nuggets, q.few_flakes, m.short, mul-le-mul q.few_tags m.short)

pub overflow_add-end : goal.overflow_add-end
overflow_add-end c =
    let a = c.args in
    let s = a.s in
    let lent = c.requires.0 in
    let q = lent_small lent in
    let m = limits s lent.limited in
    let at : c.flake_at.result ≡ flake_at s a.g.lock.number a.f = c.flake_at.ensures ∙ inside s lent.limited in
    let room = flake-inside s a.g.lock.number a.f c.requires.1 c.requires.2 in
    omega (arith, at, room, c.requires.3, q.few_leaves, q.few_tags, q.few_nuggets, q.few_flakes, m.short, mul-le-mul q.few_tags m.short)

pub slice_bounds-copy-end : goal.slice_bounds-copy-end
slice_bounds-copy-end c =
    let a = c.args in
    let s = a.s in
    let lent = c.requires.0 in
    let at : c.flake_at.result ≡ flake_at s a.g.lock.number a.f = c.flake_at.ensures ∙ inside s lent.limited in
    let room = flake-inside s a.g.lock.number a.f c.requires.1 c.requires.2 in
    omega (arith, at, room, c.requires.3, lent.size)

pub lay_from-requires : goal.lay_from-requires
lay_from-requires c =
    let m = limits c.args.s c.requires.0.limited in
    (m.short, omega (arith, c.requires.2, m.narrow), omega (arith, c.copy.auto.s, c.requires.3))

pub returns-then-has : goal.returns-then-has
returns-then-has c =
    let a = c.args in
    let s = a.s in
    let lent = c.requires.0 in
    let at : c.flake_at.result ≡ flake_at s a.g.lock.number a.f = c.flake_at.ensures ∙ inside s lent.limited in
    let room = flake-inside s a.g.lock.number a.f c.requires.1 c.requires.2 in
    let k = length a.buf.now in
    let fits : c.flake_at.result + a.b + k ≤ length a.vol.now = omega (arith, at, room, c.requires.3, lent.size) in
    c.lay_from.ensures
    ∙ ap (λ (x : List ℕ). xorl x (drop a.b (pad_of a.g.lock a.f s.f))) (c.copy.ensures ∙ copied a.buf.now a.vol.now (c.flake_at.result + a.b) k refl fits ∙ rw at)
    ∙ piece-present s a.vol.now a.g a.f a.b k lent c.requires.1 c.requires.2 c.requires.3 (sym c.has.ensures ∙ c.if-has.true)

pub returns-else-has : goal.returns-else-has
returns-else-has c =
    let a = c.args in
    c.clear.ensures ∙ piece_absent a.s a.vol.now a.g a.f a.b (length a.buf.now) c.requires.3 (sym c.has.ensures ∙ c.if-has.false)
