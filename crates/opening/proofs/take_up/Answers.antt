use Rattle.opening.proofs.MountLaws.{form_lent, mount-on, mount_off}
use Rattle.opening.proofs.ToldLaws.{blank_told}
use Rattle.opening.specs.Mount.{opened_drive, mount_answer, rest_of}
use Rattle.drive.specs.declared.Drive.{Drive}
use Rattle.answers.specs.Answer as A
use Rattle.answers.specs.Numbers.{accepts}
use mathlib.Core.Path.{◌≡◌, refl, sym, ◌∙◌, ap}
use Rattle.answers.proofs.StageLaws.{goes_on, stops}
use Rattle.opening.proofs.take_up.Goals as goal

pub opened-d-requires : goal.opened-d-requires
opened-d-requires c = form_lent c.args.vol.now (ap accepts (sym c.form.ensures ∙ c.in_ok-form.was))

pub rest-requires : goal.rest-requires
unfolding opened_drive
rest-requires c = rw c.opened-d.ensures (form_lent c.args.vol.now (ap accepts (sym c.form.ensures ∙ c.in_ok-form.was)))

pub returns : goal.returns
unfolding mount_answer
returns c =
    let a = c.args in
    let v = a.vol.now in
    let told : mount_answer v a.present a.old a.outside ≡ A.Accepted =
    goes_on _ _ (ap accepts (sym c.form.ensures ∙ c.in_ok-form.was))
    ∙ ap (λ (x : Drive). rest_of x v a.outside) (sym c.opened-d.ensures) ∙ sym c.rest.ensures ∙ c.in_ok-rest.was in
    mount-on v a.present a.old a.outside told refl c.opened-d.ensures

pub returns-in_err-form : goal.returns-in_err-form
unfolding mount_answer
returns-in_err-form c =
    let a = c.args in
    let off = ap accepts c.in_err-form.was in
    blank_told _ _ _ c.from_residual.ensures.1 c.in_err-form.was
    ∙ mount_off a.vol.now a.present a.old a.outside (stops _ _ (ap accepts (sym c.form.ensures) ∙ off) ∙ sym c.form.ensures) off refl

pub returns-in_err-rest : goal.returns-in_err-rest
unfolding mount_answer
returns-in_err-rest c =
    let a = c.args in
    let v = a.vol.now in
    let told : mount_answer v a.present a.old a.outside ≡ c.rest.result =
    goes_on _ _ (ap accepts (sym c.form.ensures ∙ c.in_ok-form.was))
    ∙ ap (λ (x : Drive). rest_of x v a.outside) (sym c.opened-d.ensures) ∙ sym c.rest.ensures in
    blank_told _ _ _ c.from_residual-in_err-rest.ensures.1 c.in_err-rest.was
    ∙ mount_off v a.present a.old a.outside told (ap accepts c.in_err-rest.was) refl
