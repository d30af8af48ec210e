use mathlib.Core.Path.{ap, ◌∙◌}
use native.Mathlib.Omega.{arith}
use borrow.Author.Rules.{rules}
use Rattle.base.proofs.TabLaws.{tab_more, tab-next}
use Rattle.aes_back.specs.InvAes.{modified_at, modified, key_expansion_eic}
use Rattle.aes_back.proofs.InvRoundLaws.{mixed_code, modified_mid, modified_first, modified_all}
use Rattle.aes_back.proofs.expand.Goals as goal

pub loop-i-init : goal.loop-i-init
loop-i-init c = modified_first _ (search rules)

pub loop-i-preserved : goal.loop-i-preserved
loop-i-preserved c =
    let s = c.loop-i in
    let h = s.invariant in
    tab_more _ _ s.i h
    (mixed_code c.args.t.now c.requires.1 _ c.sub_word-y.ensures c.looked_up.ensures
    ∙ modified_mid s.i _ (omega arith) (omega arith)
    ∙ ap (modified_at s.i) (tab-next _ _ s.i 0 h (search rules)))
    (search rules)

pub returns : goal.returns
unfolding key_expansion_eic
returns c = modified_all _ _ c.loop-i.i (search rules) (omega arith) c.loop-i.invariant ∙ ap modified c.expand-w.ensures
