-- After an accepted mount the report is accepted: the line is the report's, and a refusal is the mount's or the input's.
use mathlib.Core.Path.{◌≡◌, ap}
use mathlib.Core.List.{List}
use Prim.Native.Nat.{ℕ}
use Rattle.base.proofs.PickLaws.{yes}
use Rattle.words.specs.Le.{Bytes}
use Rattle.answers.specs.Answer as A
use Rattle.answers.specs.Numbers.{accepts}
use Rattle.opening.specs.Mount.{opened_drive, mount_answer}
use Rattle.opening.proofs.HeadBack.{opened, mount_opens}
use Rattle.reports.specs.Report.{report_answer}

pub report_follows : (v present old : List ℕ) (outside : ℕ) → Bytes v → mount_answer v present old outside ≡ A.Accepted
    → report_answer (opened_drive v present old) v ≡ A.Accepted
unfolding report_answer
report_follows v present old outside bytes e =
    yes _ (ap accepts (mount_opens v present old outside bytes e)) (opened v present old outside e).whole
