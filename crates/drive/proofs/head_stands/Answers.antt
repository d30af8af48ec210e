use Rattle.drive.proofs.HeadLaws.{node-part}
use mathlib.Core.List.{List}
use Rattle.drive.specs.Opening.{head_stands}
use Rattle.drive.specs.Drive.{shape_of}
use Rattle.base.specs.Lists.{same, part}
use Rattle.base.proofs.PickLaws.{both-on, both_off}
use Rattle.layout.proofs.Places.{node-inside}
use Rattle.layout.proofs.Height.{leaves-some}
use Rattle.layout.proofs.Limits.{Limits, limits, inside}
use Rattle.layout.specs.Parts.{node_at}
use Rattle.layout.specs.Shape.{within}
use Rattle.layout.specs.declared.Shape.{Shape}
use Prim.Native.Nat.{ℕ}
use native.Mathlib.Omega.{arith}
use mathlib.Core.Path.{◌≡◌, refl, sym, ◌∙◌, ap}
use Rattle.drive.proofs.head_stands.Goals as goal

pub overflow_add-end : goal.overflow_add-end
overflow_add-end c =
    let d = c.args.d in
    let in-limits = c.requires.0 in
    let l : Limits (shape_of d) = limits (shape_of d) in-limits in
    let at : c.node_at-at.result ≡ node_at (shape_of d) 1 = c.node_at-at.ensures ∙ ap (λ (s : Shape). within s (node_at s 1)) c.shape_of.ensures ∙ inside (shape_of d) in-limits in
    omega (arith, at, node-inside (shape_of d) 1 (omega arith) (omega (arith, leaves-some d.n)), c.requires.1)

pub slice_bounds-equal-end-then-equal : goal.slice_bounds-equal-end-then-equal
slice_bounds-equal-end-then-equal c =
    let d = c.args.d in
    let in-limits = c.requires.0 in
    let l : Limits (shape_of d) = limits (shape_of d) in-limits in
    let at : c.node_at-at.result ≡ node_at (shape_of d) 1 = c.node_at-at.ensures ∙ ap (λ (s : Shape). within s (node_at s 1)) c.shape_of.ensures ∙ inside (shape_of d) in-limits in
    omega (arith, at, node-inside (shape_of d) 1 (omega arith) (omega (arith, leaves-some d.n)), c.requires.1)

pub returns-then-equal : goal.returns-then-equal
unfolding head_stands
returns-then-equal c =
    let d = c.args.d in
    let in-limits = c.requires.0 in
    let l : Limits (shape_of d) = limits (shape_of d) in-limits in
    let at : c.node_at-at.result ≡ node_at (shape_of d) 1 = c.node_at-at.ensures ∙ ap (λ (s : Shape). within s (node_at s 1)) c.shape_of.ensures ∙ inside (shape_of d) in-limits in
    c.equal-then-equal.ensures ∙ node-part c.args.vol.now d.node c.node_at-at.result (node_at (shape_of d) 1) at
    ∙ sym (both-on (sym (ap (λ (h : List ℕ). same (part 0 104 c.args.vol.now) h) c.head.ensures) ∙ sym c.equal.ensures ∙ c.if-equal.true) refl)

pub returns-else-equal : goal.returns-else-equal
unfolding head_stands
returns-else-equal c = c.if-equal.false ∙ sym (both_off _ (sym (ap (λ (h : List ℕ). same (part 0 104 c.args.vol.now) h) c.head.ensures) ∙ sym c.equal.ensures ∙ c.if-equal.false))
