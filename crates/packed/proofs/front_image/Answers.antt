use Prim.{tt}
use Rattle.codec.specs.Row.{◌&◌}
use Rattle.codec.proofs.RowLaws.{row_made}
use Rattle.packed.specs.Image.{front_pieces}
use lib.ListN.{length}
use mathlib.Core.Path.{◌≡◌, refl, ◌∙◌}
use borrow.Author.Rules.{rules}
use Rattle.packed.proofs.front_image.Goals as goal

pub returns : goal.returns
returns c =
    let a = c.args in
    let la : length a.numbers ≡ 24 = search rules in
    let lb : length a.salt ≡ 16 = search rules in
    c.store.ensures ∙ rw (c.copy-2.ensures, c.copy.ensures) (row_made front_pieces _ (a.numbers & a.salt & a.counter & tt) (la & lb & tt & tt) refl)
