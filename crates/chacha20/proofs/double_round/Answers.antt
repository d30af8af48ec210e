use Rattle.std.proofs.Common.{◌≡◌, length, ap, ◌∙◌, rules}
use Rattle.chacha20.specs.Quads.{diagonals}
use Rattle.chacha20.proofs.RoundLaws.{crossed}
use borrow.Author.Rules.{rules}
use Rattle.chacha20.proofs.double_round.Goals as goal

pub returns : goal.returns
returns c =
    let sixteen : length c.args.s ≡ 16 = search rules in
    crossed _ sixteen _ (c.diagonals.ensures ∙ ap diagonals c.columns.ensures) c.from_diagonals.ensures
