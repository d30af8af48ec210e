use mathlib.Core.Path.{refl}
use Rattle.poly1305.proofs.StateLaws.{topped, goes_on}
use Rattle.poly1305.proofs.top_up.Goals as goal

pub invariant_of-result : goal.invariant_of-result
invariant_of-result c = let a = c.args.a in
    let m = c.args.m.now in
    record { good = goes_on a.state m a.good (topped a.state m _ a.good c.requires c.copy.ensures c.blocks-acc.ensures) }

pub returns : goal.returns
returns c = let a = c.args.a in
    (topped a.state c.args.m.now _ a.good c.requires c.copy.ensures c.blocks-acc.ensures, refl)
