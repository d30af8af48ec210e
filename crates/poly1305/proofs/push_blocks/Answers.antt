use mathlib.Core.Path.{refl}
use Rattle.poly1305.proofs.StateLaws.{ran, run_none, goes_on}
use Rattle.poly1305.proofs.push_blocks.Goals as goal

pub returns-then-n-eq0 : goal.returns-then-n-eq0
returns-then-n-eq0 c = let a = c.args in
    (run_none a.n a.a.state a.m.now c.if-n-eq0.true, c.requires.0)

pub invariant_of-result : goal.invariant_of-result
invariant_of-result c = let a = c.args.a in
    let m = c.args.m.now in
    let n = c.args.n in
    record { good = goes_on a.state _ a.good (ran n a.state m a.good c.requires.0 c.if-n-eq0.false c.requires.1 c.blocks-acc.ensures) }

pub returns : goal.returns
returns c = let a = c.args.a in
    (ran c.args.n a.state c.args.m.now a.good c.requires.0 c.if-n-eq0.false c.requires.1 c.blocks-acc.ensures, refl)
