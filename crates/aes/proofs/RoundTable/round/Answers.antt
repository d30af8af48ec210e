-- Four columns.
use mathlib.Core.Path.{ap, ◌∙◌}
use Rattle.aes.specs.Code.{state_bytes}
use Rattle.aes.proofs.RoundLaws.{round_code}
use Rattle.aes.proofs.RoundTable.round.Goals as goal

pub returns : goal.returns
returns c =
    ap state_bytes c.add.ensures
    ∙ round_code c.args.self.entries.now c.args.self.whole c.args.s c.args.k c.looked_up.ensures c.looked_up-2.ensures c.looked_up-3.ensures
    c.looked_up-4.ensures
