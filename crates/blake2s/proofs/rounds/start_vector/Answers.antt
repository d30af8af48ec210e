use Rattle.std.proofs.Common.{true, false, sym, ap, ◌∙◌, arith, rules}
use Rattle.base.specs.Lists.{tab}
use Rattle.blake2s.specs.Compress.{vector, iv}
use Rattle.blake2s.proofs.RoundLaws.{vector_is}
use borrow.Author.Rules.{rules}
use Rattle.blake2s.proofs.rounds.start_vector.Goals as goal

pub returns-then-last : goal.returns-then-last
unfolding iv tab
returns-then-last c =
    let a = c.args in
    vector_is a.h a.t true (search rules) (omega arith) ∙ ap (vector a.h a.t) (sym c.if-last.true)

pub returns-else-last : goal.returns-else-last
unfolding iv tab
returns-else-last c =
    let a = c.args in
    vector_is a.h a.t false (search rules) (omega arith) ∙ ap (vector a.h a.t) (sym c.if-last.false)
