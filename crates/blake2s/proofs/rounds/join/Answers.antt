use Rattle.std.proofs.Common.{◌+◌, ◌<◌, length, ℕ, ap, sym, ◌∙◌, arith, get_or}
use lib.Bits.{bit_xor}
use Rattle.base.proofs.TabLaws.{tab-none, tab_more, tab-next, tab-all}
use Rattle.words.proofs.XorLaws.{xor_assoc}
use Rattle.blake2s.proofs.rounds.join.Goals as goal

pub loop-i-init : goal.loop-i-init
loop-i-init c = tab-none _ _

pub loop-i-preserved : goal.loop-i-preserved
loop-i-preserved c =
    let t = c.loop-i in
    let a = c.args in
    let h : t.i < length a.h = omega arith in
    tab_more _ a.h t.i t.invariant (ap (λ (x : ℕ). bit_xor x (bit_xor (get_or a.v t.i 0) (get_or a.v (t.i + 8) 0))) (tab-next _ a.h t.i 0 t.invariant h) ∙ sym (xor_assoc (get_or a.h t.i 0) (get_or a.v t.i 0) (get_or a.v (t.i + 8) 0))) h

pub returns : goal.returns
returns c = tab-all _ _ _ 8 c.loop-i.invariant (omega arith) (omega arith)
