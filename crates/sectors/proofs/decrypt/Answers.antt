-- Both keys expanded, and the sectors under their words.
use Rattle.sectors.proofs.KeyLaws.{decrypted_is}
use Rattle.sectors.proofs.decrypt.Goals as goal

pub returns : goal.returns
returns c =
    let a = c.args in
    decrypted_is a.one a.two a.first a.d.now c.expand-dw.ensures c.expand-v.ensures c.under.ensures
