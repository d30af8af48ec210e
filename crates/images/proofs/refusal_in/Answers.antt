use native.Mathlib.Omega.{arith}
use Rattle.images.specs.Back.{refusal_in}
use borrow.Author.Tests.{ne_eqb}
use mathlib.Core.Path.{refl, ◌∙◌}
use Rattle.images.proofs.refusal_in.Goals as goal

pub returns-in-1 : goal.returns-in-1
unfolding refusal_in
returns-in-1 c = rw c.in-1.is refl

pub returns-in-2 : goal.returns-in-2
unfolding refusal_in
returns-in-2 c = rw c.in-2.is refl

pub returns-in-3 : goal.returns-in-3
unfolding refusal_in
returns-in-3 c = rw c.in-3.is refl

pub returns-in-4 : goal.returns-in-4
unfolding refusal_in
returns-in-4 c = rw c.in-4.is refl

pub returns-in-5 : goal.returns-in-5
unfolding refusal_in
returns-in-5 c = rw c.in-5.is refl

pub returns-in-6 : goal.returns-in-6
unfolding refusal_in
returns-in-6 c = rw c.in-6.is refl

pub returns-in-7 : goal.returns-in-7
unfolding refusal_in
returns-in-7 c = c.altered_in.ensures ∙ rw c.in-7.is refl

pub returns-in-8 : goal.returns-in-8
unfolding refusal_in
returns-in-8 c = rw c.in-8.is refl

pub returns-in-9 : goal.returns-in-9
unfolding refusal_in
returns-in-9 c = rw c.in-9.is refl

pub returns-in-10 : goal.returns-in-10
unfolding refusal_in
returns-in-10 c = rw c.in-10.is refl

pub returns-in-11 : goal.returns-in-11
unfolding refusal_in
returns-in-11 c = rw c.in-11.is refl

pub returns-in-12 : goal.returns-in-12
unfolding refusal_in
returns-in-12 c = rw c.in-12.is refl

pub returns-in-13 : goal.returns-in-13
unfolding refusal_in
returns-in-13 c = rw c.in-13.is refl

pub returns-in-15 : goal.returns-in-15
unfolding refusal_in
returns-in-15 c = rw c.in-15.is refl

pub returns-in-16 : goal.returns-in-16
unfolding refusal_in
returns-in-16 c = rw c.in-16.is refl

pub returns-in_default : goal.returns-in_default
unfolding refusal_in
returns-in_default c =
    rw (
      ne_eqb c.args.n 1 (λ e. omega arith),
      ne_eqb c.args.n 2 (λ e. omega arith),
      ne_eqb c.args.n 3 (λ e. omega arith),
      ne_eqb c.args.n 4 (λ e. omega arith),
      ne_eqb c.args.n 5 (λ e. omega arith),
      ne_eqb c.args.n 6 (λ e. omega arith),
      ne_eqb c.args.n 7 (λ e. omega arith),
      ne_eqb c.args.n 8 (λ e. omega arith),
      ne_eqb c.args.n 9 (λ e. omega arith),
      ne_eqb c.args.n 10 (λ e. omega arith),
      ne_eqb c.args.n 11 (λ e. omega arith),
      ne_eqb c.args.n 12 (λ e. omega arith),
      ne_eqb c.args.n 13 (λ e. omega arith),
      ne_eqb c.args.n 15 (λ e. omega arith),
      ne_eqb c.args.n 16 (λ e. omega arith),
    ) refl
