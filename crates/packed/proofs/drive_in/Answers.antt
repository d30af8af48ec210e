use Rattle.packed.specs.Image.{drive_in}
use Rattle.base.proofs.PickLaws.{yes, no}
use borrow.Author.Tests.{lt-ltb, le-ltb}
use mathlib.Core.Path.{refl, sym, ◌∙◌}
use Rattle.packed.proofs.drive_in.Goals as goal

pub returns-then-load-gt1 : goal.returns-then-load-gt1
unfolding drive_in
returns-then-load-gt1 c = c.blank.ensures ∙ sym (yes _ (lt-ltb 1 _ (rw c.load.ensures.0 at c.if-load-gt1.true)) refl)

pub returns : goal.returns
unfolding drive_in
returns c = sym (no _ (le-ltb 1 _ (rw c.load.ensures.0 at c.if-load-gt1.false)) (rw (c.taken-4.ensures, c.taken-3.ensures, c.taken-2.ensures, c.load-5.ensures.0, c.load-4.ensures.0, c.state_in.ensures, c.taken.ensures, c.load-3.ensures.0, c.load-2.ensures.0, c.load32-3.ensures, c.load32-2.ensures, c.load32.ensures) refl))
