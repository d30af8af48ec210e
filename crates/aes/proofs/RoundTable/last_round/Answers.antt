-- Four columns, not mixed.
use mathlib.Core.Path.{ap, ◌∙◌}
use Rattle.aes.specs.Code.{state_bytes}
use Rattle.aes.proofs.RoundLaws.{last_round_code}
use Rattle.aes.proofs.RoundTable.last_round.Goals as goal

pub returns : goal.returns
returns c =
    ap state_bytes c.add.ensures
    ∙ last_round_code c.args.s c.args.k c.rows.ensures c.rows-2.ensures c.rows-3.ensures c.rows-4.ensures
