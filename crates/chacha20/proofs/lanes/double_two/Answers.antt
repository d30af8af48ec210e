use Rattle.std.proofs.Common.{◌≡◌, length, ap, ◌∙◌, rules}
use Rattle.chacha20.specs.Quads.{diagonals}
use Rattle.chacha20.proofs.RoundLaws.{crossed}
use borrow.Author.Rules.{rules}
use Rattle.chacha20.proofs.lanes.double_two.Goals as goal

pub returns : goal.returns
returns c =
    let sixteen : length c.args.x.s ≡ 16 = search rules in
    let sixteen-too : length c.args.x.t ≡ 16 = search rules in (
      crossed _ sixteen _ (c.diagonals-p.ensures ∙ ap diagonals c.columns-q.ensures) c.from_diagonals.ensures,
      crossed _ sixteen-too _ (c.diagonals-v.ensures ∙ ap diagonals c.columns-u.ensures) c.from_diagonals-2.ensures,
    )
