use native.Mathlib.Nat.{add-zero}
use lib.ListN.{length-set}
use Rattle.base.proofs.PartLaws.{sets-next, sets-done}
use Prim.Native.Nat.{ℕ}
use mathlib.Core.Path.{refl, ap, sym, ◌∙◌}
use lib.Seq.{sets}
use Rattle.words.proofs.copy.Goals as goal

pub loop-i-init : goal.loop-i-init
loop-i-init c = (refl, ap (λ (n : ℕ). sets c.args.s.now n c.args.from.now) (add-zero c.args.at))

pub loop-i-preserved : goal.loop-i-preserved
loop-i-preserved c =
    let t = c.loop-i in
    let a = c.args in
    (simp length-set t.invariant.0, sym (sets-next t.s a.from.now 0 a.at t.i c.loop-i-test.true) ∙ t.invariant.1)

pub returns : goal.returns
returns c =
    let t = c.loop-i in
    let a = c.args in
    sym (sets-done t.s a.from.now a.at t.i c.loop-i-test.false) ∙ t.invariant.1
