use mathlib.Core.Path.{sym, ap, ◌∙◌}
use Prim.Native.Nat.{ℕ, ◌%◌}
use native.Mathlib.Omega.{arith}
use lib.ListN.{length}
use Rattle.answers.specs.Numbers.{accepts}
use Rattle.answers.proofs.StageLaws.{handed}
use Rattle.handing.proofs.HandLaws.{hand_told, few_sectors, export-first, export-read, export-done}
use Rattle.handing.proofs.export.Goals as goal

pub encrypt-requires : goal.encrypt-requires
encrypt-requires c =
    let a = c.args in
    let g = hand_told a.d a.vol.now a.one a.two (length a.out.now) (ap accepts (sym c.admit.ensures) ∙ ap accepts c.in_ok-admit.was) in
    let few = few_sectors a.d a.vol.now a.one a.two (length a.out.now) g in
    let same = c.read.auto.buf in
    (ap (λ (n : ℕ). n % 512) same ∙ g.even, omega (arith, same, few))

pub returns : goal.returns
returns c =
    let a = c.args in
    let met = export-done a.d a.vol.now a.one a.two a.out.now c.admit.ensures (ap accepts c.in_ok-admit.was) c.read.ensures.0 (ap accepts c.in_ok-read.was) c.read.ensures.1 c.encrypt.ensures in
    (sym c.in_ok-read.was ∙ met.0, met.1)

pub returns-in_err-admit : goal.returns-in_err-admit
returns-in_err-admit c =
    let a = c.args in
    let met = export-first a.d a.vol.now a.one a.two a.out.now c.admit.ensures (ap accepts c.in_err-admit.was) in
    (handed _ _ _ c.from_residual.ensures.1 c.in_err-admit.was ∙ met.0, met.1)

pub returns-in_err-read : goal.returns-in_err-read
returns-in_err-read c =
    let a = c.args in
    let met = export-read a.d a.vol.now a.one a.two a.out.now c.admit.ensures (ap accepts c.in_ok-admit.was) c.read.ensures.0 (ap accepts c.in_err-read.was) c.read.ensures.1 in
    (handed _ _ _ c.from_residual-in_err-read.ensures.1 c.in_err-read.was ∙ met.0, met.1)
