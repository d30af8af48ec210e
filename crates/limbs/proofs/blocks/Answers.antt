use native.Mathlib.Omega.{arith}
use mathlib.Core.Path.{◌≡◌, ap, ◌∙◌}
use Prim.Native.Nat.{◌-◌, ◌*◌, ◌/◌, ◌%◌, ◌^◌}
use Rattle.limbs.specs.Limbs.{value, limbs_of, p}
use Rattle.limbs.specs.Bounds.{steps_by}
use Rattle.limbs.proofs.TurnLaws.{blocks_are, rest_is, steps_both}
use Rattle.limbs.proofs.blocks.Goals as goal

pub returns-then-n-lt32 : goal.returns-then-n-lt32
returns-then-n-lt32 c =
    let a = c.args in
    let h = c.requires in
    c.freeze.ensures ∙ ap limbs_of (rw c.new-by.ensures at c.run.ensures.same ∙ blocks_are a.n (value a.r) (value a.a) a.m.now h.0.under h.2)

pub returns : goal.returns
returns c =
    let a = c.args in
    let h = c.requires in
    let k = 4 * (a.n / 4) in
    let x = c.run_four-h in
    let rest : a.n % 4 ≡ a.n - k = omega arith in
    let all : value c.run-2.result % p ≡ steps_by (2 ^ 24) a.n (value a.r) (value a.a % p) a.m.now =
    steps_both (2 ^ 24) k a.n (value a.r) (value a.a % p) (value x.result) (value c.run-2.result) a.m.now _ (omega arith)
    (rest_is (64 * (a.n / 4)) (16 * k) a.m.now (omega arith))
    (rw c.new-by.ensures at x.ensures.same) (rw (c.new-by.ensures, rest) at c.run-2.ensures.same) in
    c.freeze-2.ensures ∙ ap limbs_of (all ∙ blocks_are a.n (value a.r) (value a.a) a.m.now h.0.under h.2)
