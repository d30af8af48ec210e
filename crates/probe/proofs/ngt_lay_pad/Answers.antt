use Rattle.probe.specs.Probes.{laid_bytes}
use Rattle.base.proofs.PickLaws.{yes, no}
use borrow.Author.Tests.{lt-ltb, le-ltb, le-leb, lt-leb}
use mathlib.Core.Path.{refl, sym, ◌∙◌}
use Rattle.probe.proofs.ngt_lay_pad.Goals as goal
use Rattle.probe.proofs.ngt_lay_pad.Goals.{else-flake-le4096-via-then-flake-le4096+else-f-lt64, else-flake-le4096-via-else-flake-le4096}

pub returns-then-f-lt64 : goal.returns-then-f-lt64
unfolding laid_bytes
returns-then-f-lt64 c = (rw c.lock_with.ensures at c.lay_from.ensures) ∙ sym (yes _ (le-leb _ _ c.if-flake-le4096.true) (yes _ (lt-ltb _ _ c.if-f-lt64.true) refl))

pub returns-else-flake-le4096 : goal.returns-else-flake-le4096
unfolding laid_bytes
returns-else-flake-le4096 c =
    elim c.else-flake-le4096.branch [
      | else-flake-le4096-via-then-flake-le4096+else-f-lt64 w ↦ sym (yes _ (le-leb _ _ w.if-flake-le4096.true) (no _ (le-ltb _ _ w.if-f-lt64.false) refl))
      | else-flake-le4096-via-else-flake-le4096 w ↦ sym (no _ (lt-leb _ _ w.if-flake-le4096.false) refl)
    ]
