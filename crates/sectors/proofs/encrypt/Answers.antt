-- Both keys expanded, and the sectors under their words.
use Rattle.sectors.proofs.KeyLaws.{encrypted_is}
use Rattle.sectors.proofs.encrypt.Goals as goal

pub returns : goal.returns
returns c =
    let a = c.args in
    encrypted_is a.one a.two a.first a.d.now c.expand-w.ensures c.expand-v.ensures c.under.ensures
