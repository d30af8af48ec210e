use Prim.{tt}
use Rattle.codec.specs.Row.{◌&◌}
use Rattle.codec.proofs.RowLaws.{row_made}
use Rattle.packed.specs.Image.{whole_pieces}
use lib.ListN.{length}
use mathlib.Core.Path.{◌≡◌, refl, ◌∙◌}
use borrow.Author.Rules.{rules}
use Rattle.packed.proofs.whole_image.Goals as goal

pub returns : goal.returns
returns c =
    let a = c.args in
    let la : length a.front ≡ 48 = search rules in
    let lb : length a.node ≡ 32 = search rules in
    let lc : length a.present ≡ 32 = search rules in
    let ld : length a.old ≡ 32 = search rules in
    c.copy-4.ensures ∙ rw (c.copy-3.ensures, c.copy-2.ensures, c.copy.ensures) (row_made whole_pieces _ (a.front & a.node & a.present & a.old & tt) (la & lb & lc & ld & tt) refl)
