use Rattle.opening.proofs.FormatLaws.{format_lent, format-on, format_off}
use Rattle.opening.specs.Format.{format_answer, planted}
use Rattle.tree.specs.Renewed.{built}
use Rattle.answers.specs.Numbers.{accepts}
use Rattle.answers.specs.Answer as A
use Rattle.opening.proofs.ToldLaws.{blank_told}
use lib.Seq.{sets}
use lib.ListN.{length}
use Prim.Native.Nat.{ℕ}
use mathlib.Core.List.{List}
use native.Mathlib.Omega.{arith}
use mathlib.Core.Path.{◌≡◌, refl, sym, ◌∙◌, ap, ap₂}
use borrow.Author.Rules.{rules}
use Rattle.opening.proofs.plant.Goals as goal

pub lay_bare-requires : goal.lay_bare-requires
lay_bare-requires c =
    let a = c.args in
    let l = format_lent a.s a.outside a.vol.now (ap accepts (sym c.format_tests.ensures ∙ c.in_ok-format_tests.was)) in
    l.0

pub build-requires : goal.build-requires
build-requires c =
    let a = c.args in
    let l = format_lent a.s a.outside a.vol.now (ap accepts (sym c.format_tests.ensures ∙ c.in_ok-format_tests.was)) in
    record { limited = l.0.limited; size = c.lay_bare.auto.vol ∙ l.0.size }

pub fresh_drive-d-requires : goal.fresh_drive-d-requires
unfolding planted
fresh_drive-d-requires c =
    let a = c.args in
    let l = format_lent a.s a.outside a.vol.now (ap accepts (sym c.format_tests.ensures ∙ c.in_ok-format_tests.was)) in
    let grown = c.build.ensures ∙ ap (λ (w : List ℕ). built a.s w) c.lay_bare.ensures in
    (record { limited = l.0.limited; size = c.build.auto.vol ∙ c.lay_bare.auto.vol ∙ l.0.size }, grown, omega (arith, l.1))

pub copy-requires : goal.copy-requires
copy-requires c =
    let a = c.args in
    let l = format_lent a.s a.outside a.vol.now (ap accepts (sym c.format_tests.ensures ∙ c.in_ok-format_tests.was)) in
    let k : length c.head.result ≡ 104 = search rules in
    omega (arith, k, c.build.auto.vol, c.lay_bare.auto.vol, l.0.size)

pub returns : goal.returns
unfolding planted
returns c =
    let a = c.args in
    let s = a.s in
    let told : format_answer s a.outside a.vol.now ≡ A.Accepted = sym c.format_tests.ensures ∙ c.in_ok-format_tests.was in
    let grown = c.build.ensures ∙ ap (λ (w : List ℕ). built s w) c.lay_bare.ensures in
    format-on s a.salt a.secret a.outside a.vol.now told refl c.fresh_drive-d.ensures (c.copy.ensures ∙ ap₂ (λ (x y : List ℕ). sets x 0 y) grown c.head.ensures)

pub returns-in_err-format_tests : goal.returns-in_err-format_tests
returns-in_err-format_tests c =
    let a = c.args in
    let off = format_off a.s a.salt a.secret a.outside a.vol.now (sym c.format_tests.ensures) (ap accepts c.in_err-format_tests.was) refl in
    (blank_told _ _ _ c.from_residual.ensures.1 c.in_err-format_tests.was ∙ off.0, off.1)
