use Rattle.writing.proofs.AnswerLaws.{change_idle, change_add, change_rekey, change_clear}
use mathlib.Core.Logic.{⊎_elim}
use Rattle.writing.proofs.test_nugget.Goals as goal

pub returns-in-Idle : goal.returns-in-Idle
returns-in-Idle c = let a = c.args in change_idle a.d a.vol.now a.n c.in-Idle.is

pub returns-in-Rekey : goal.returns-in-Rekey
returns-in-Rekey c = let a = c.args in change_rekey a.d a.vol.now a.n _ c.in-Rekey.is c.test_rekey.ensures

pub returns-in-Add : goal.returns-in-Add
returns-in-Add c =
    let a = c.args in
    ⊎_elim (λ w. change_add a.d a.vol.now a.n w.0 w.1 c.test_path.ensures) (λ w. change_clear a.d a.vol.now a.n w.0 w.1 c.test_path.ensures) c.in-Add.is
