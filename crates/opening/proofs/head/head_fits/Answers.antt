use Rattle.opening.specs.Mount.{head_fits, state_byte_in, shape_in}
use Rattle.drive.specs.Opening.{state_fits}
use Rattle.drive.specs.declared.State.{State}
use Rattle.layout.specs.Shape.{in_limits}
use Rattle.layout.specs.declared.Shape.{Shape}
use Rattle.base.specs.Pick.{both}
use Rattle.base.proofs.PickLaws.{both-on, both_off, both_left, both_right}
use lib.Dec.{leb}
use Prim.Native.Nat.{ℕ}
use mathlib.Core.Bool.{Bool, true, false}
use mathlib.Core.Path.{◌≡◌, refl, sym, ◌∙◌, ap, ap₂}
use Rattle.opening.proofs.head.head_fits.Goals as goal
use Rattle.opening.proofs.head.head_fits.Goals.{then-in_limits, else-in_limits}

both-both : (x y z : Bool) → both x (both y z) ≡ both (both x y) z
both-both true y z = refl
both-both false y z = refl

pub returns-then-state_byte_in-le1 : goal.returns-then-state_byte_in-le1
unfolding head_fits
returns-then-state_byte_in-le1 c =
    let v = c.args.vol.now in
    let limits : c.in_limits.result ≡ in_limits (shape_in v) = c.in_limits.ensures ∙ ap (λ (s : Shape). in_limits s) c.shape_in.ensures in
    let first : c.if-in_limits.value ≡ both (in_limits (shape_in v)) (leb (state_byte_in v) 1) =
    elim c.if-in_limits.branch [
      | then-in_limits w ↦ w.value-is ∙ ap (λ (b : ℕ). leb b 1) w.state_byte_in.ensures ∙ sym (both-on (sym limits ∙ w.if-in_limits.true) refl)
      | else-in_limits w ↦ w.value-is ∙ w.if-in_limits.false ∙ sym (both_off _ (sym limits ∙ w.if-in_limits.false))
    ] in
    let q = sym first ∙ c.if-state_byte_in-le1.true in
    c.state_fits.ensures ∙ ap₂ (λ (s : State) (e : ℕ). state_fits s e) c.state_in.ensures c.epoch_in.ensures
    ∙ sym (both-on (both_left _ (leb (state_byte_in v) 1) q) (both-on (both_right (in_limits (shape_in v)) _ q) refl))

pub returns-else-state_byte_in-le1 : goal.returns-else-state_byte_in-le1
unfolding head_fits
returns-else-state_byte_in-le1 c =
    let v = c.args.vol.now in
    let limits : c.in_limits.result ≡ in_limits (shape_in v) = c.in_limits.ensures ∙ ap (λ (s : Shape). in_limits s) c.shape_in.ensures in
    let first : c.if-in_limits.value ≡ both (in_limits (shape_in v)) (leb (state_byte_in v) 1) =
    elim c.if-in_limits.branch [
      | then-in_limits w ↦ w.value-is ∙ ap (λ (b : ℕ). leb b 1) w.state_byte_in.ensures ∙ sym (both-on (sym limits ∙ w.if-in_limits.true) refl)
      | else-in_limits w ↦ w.value-is ∙ w.if-in_limits.false ∙ sym (both_off _ (sym limits ∙ w.if-in_limits.false))
    ] in
    c.if-state_byte_in-le1.false ∙ sym (both-both (in_limits (shape_in v)) (leb (state_byte_in v) 1) _ ∙ both_off _ (sym first ∙ c.if-state_byte_in-le1.false))
