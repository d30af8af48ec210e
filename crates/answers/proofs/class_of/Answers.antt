use mathlib.Core.Path.{◌≡◌, sym, refl}
use native.Mathlib.Omega.{arith}
use Rattle.answers.specs.Classes.{class_of}
use Rattle.answers.proofs.ClassLaws as law
use Rattle.answers.proofs.class_of.Goals as goal

pub returns-in-7 : goal.returns-in-7
unfolding class_of
returns-in-7 c = rw c.in-7.is refl

pub returns-in-13 : goal.returns-in-13
returns-in-13 c = sym (law.spent c.args.number c.in-13.is)

pub returns-in-16 : goal.returns-in-16
returns-in-16 c = sym (law.sixteen c.args.number c.in-16.is)

pub returns-in-1-to-3 : goal.returns-in-1-to-3
returns-in-1-to-3 c = sym (law.form c.args.number (omega arith) (omega arith))

pub returns-in-4-to-6 : goal.returns-in-4-to-6
returns-in-4-to-6 c = sym (law.key c.args.number (omega arith) (omega arith))

pub returns-in-8-to-12 : goal.returns-in-8-to-12
returns-in-8-to-12 c = sym (law.request c.args.number (omega arith) (omega arith))

pub returns-in_default : goal.returns-in_default
unfolding class_of
returns-in_default c =
    let e : c.args.number ≡ 0 = omega arith in
    rw e refl

pub returns-in_default-2 : goal.returns-in_default-2
returns-in_default-2 c = sym (law.nothing c.args.number (omega arith) (λ e. grind arith) (λ e. grind arith) (λ e. omega arith))
