use native.Mathlib.Omega.{arith}
use Rattle.images.specs.Back.{altered_in}
use borrow.Author.Tests.{ne_eqb}
use mathlib.Core.Path.{refl}
use Rattle.images.proofs.altered_in.Goals as goal

pub returns-in-1 : goal.returns-in-1
unfolding altered_in
returns-in-1 c = rw c.in-1.is refl

pub returns-in-2 : goal.returns-in-2
unfolding altered_in
returns-in-2 c = rw c.in-2.is refl

pub returns-in-3 : goal.returns-in-3
unfolding altered_in
returns-in-3 c = rw c.in-3.is refl

pub returns-in-4 : goal.returns-in-4
unfolding altered_in
returns-in-4 c = rw c.in-4.is refl

pub returns-in_default : goal.returns-in_default
unfolding altered_in
returns-in_default c =
    rw (
      ne_eqb c.args.kind 1 (λ e. omega arith),
      ne_eqb c.args.kind 2 (λ e. omega arith),
      ne_eqb c.args.kind 3 (λ e. omega arith),
      ne_eqb c.args.kind 4 (λ e. omega arith),
    ) refl
