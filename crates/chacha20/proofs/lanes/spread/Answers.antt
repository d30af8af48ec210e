use Rattle.std.proofs.Common.{◌≡◌, length, rules}
use Rattle.chacha20.proofs.LaneLaws.{spread-all}
use borrow.Author.Rules.{rules}
use Rattle.chacha20.proofs.lanes.spread.Goals as goal

pub returns : goal.returns
returns c =
    let sixteen : length c.args.s ≡ 16 = search rules in
    spread-all _ sixteen c.repeat.ensures c.count.ensures
