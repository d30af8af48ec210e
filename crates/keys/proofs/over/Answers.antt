use mathlib.Core.Path.{◌∙◌}
use Rattle.words.proofs.LeLaws.{owned_bytes}
use Rattle.keys.proofs.TagLaws.{three}
use Rattle.keys.proofs.over.Goals as goal

pub returns : goal.returns
returns c =
    let known = c.well_formed.0 in
    let a = c.args in
    c.finish.ensures
    ∙ three a.key a.front.now a.text.now a.back.now c.start-s0.ensures c.absorb-s1.ensures
    c.absorb-s2.ensures c.absorb-s3.ensures known.1.0.1 (owned_bytes a.key known.0 known.1.1)
