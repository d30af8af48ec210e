use lib.ListN.{length, get_or}
use Prim.Native.Nat.{◌<◌, ℕ}
use mathlib.Core.Path.{ap, sym, ◌∙◌}
use native.Mathlib.Omega.{arith}
use lib.Bits.{bit_xor}
use Rattle.base.proofs.TabLaws.{tab-none, tab_more, tab-next, tab-all}
use Rattle.words.proofs.XorLaws.{xorl-tab}
use Rattle.words.proofs.xor.Goals as goal

pub loop-i-init : goal.loop-i-init
loop-i-init c = tab-none _ _

pub loop-i-preserved : goal.loop-i-preserved
loop-i-preserved c =
    let t = c.loop-i in
    let d = c.args.d.now in
    let h : t.i < length d = omega arith in
    tab_more _ d t.i t.invariant (ap (λ (x : ℕ). bit_xor x (get_or c.args.k.now t.i 0)) (tab-next _ d t.i 0 t.invariant h)) h

pub returns : goal.returns
returns c =
    let t = c.loop-i in
    let a = c.args in
    tab-all _ a.d.now t.i (length a.d.now) t.invariant (omega arith) (omega arith) ∙ sym (xorl-tab a.d.now a.k.now)
