-- Four columns.
use mathlib.Core.Path.{ap, ◌∙◌}
use Rattle.aes.specs.Code.{state_bytes}
use Rattle.aes_back.proofs.InvRoundLaws.{round_code}
use Rattle.aes_back.proofs.Backward.round.Goals as goal

pub returns : goal.returns
returns c =
    let a = c.args in
    ap state_bytes c.add.ensures
    ∙ round_code a.self.now.table.now a.self.now.whole a.s a.k c.looked_up.ensures c.looked_up-2.ensures c.looked_up-3.ensures c.looked_up-4.ensures
