use Prim.{tt}
use Rattle.codec.specs.Row.{◌&◌}
use Rattle.codec.proofs.RowLaws.{row_made}
use Rattle.drive.specs.Head.{head_pieces}
use lib.ListN.{length}
use mathlib.Core.Path.{◌≡◌, refl, ◌∙◌}
use borrow.Author.Rules.{rules}
use Rattle.drive.proofs.front_of.Goals as goal

pub returns : goal.returns
returns c =
    let a = c.args in
    let la : length a.numbers ≡ 16 = search rules in
    let lb : length a.salt ≡ 16 = search rules in
    let ld : length a.check ≡ 32 = search rules in
    c.copy-3.ensures ∙ rw (c.store.ensures, c.copy-2.ensures, c.copy.ensures) (row_made head_pieces _ (a.numbers & a.salt & a.counter & a.check & tt) (la & lb & tt & ld & tt) refl)
