use mathlib.Core.List.{◌++◌}
use Rattle.drive.proofs.HeadLaws.{two-pieces}
use Rattle.drive.specs.Head.{head_of}
use lib.ListN.{length}
use mathlib.Core.Path.{◌≡◌, refl, ◌∙◌}
use borrow.Author.Rules.{rules}
use Rattle.drive.proofs.head.Goals as goal

pub returns : goal.returns
unfolding head_of
returns c =
    let la : length c.front-first.result ≡ 72 = search rules in
    let lb : length c.seal_of-seal.result ≡ 32 = search rules in
    let both : c.copy-2.new.s ≡ c.front-first.result ++ c.seal_of-seal.result = c.copy-2.ensures ∙ rw c.copy.ensures (two-pieces _ c.front-first.result c.seal_of-seal.result la lb refl) in
    rw (c.seal_of-seal.ensures, c.front-first.ensures) at both
