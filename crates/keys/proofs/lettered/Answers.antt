use mathlib.Core.Path.{◌≡◌}
use lib.ListN.{length}
use Rattle.keys.proofs.HashLaws.{lettered-hash}
use borrow.Author.Rules.{rules}
use Rattle.keys.proofs.lettered.Goals as goal

pub returns : goal.returns
returns c =
    let long : length c.args.key ≡ 32 = search rules in
    lettered-hash c.args.key c.args.a.now c.args.b.now c.args.letter long c.start_keyed-s0.ensures
    c.absorb-s1.ensures c.absorb-s2.ensures c.absorb-s3.ensures c.finish.ensures
