-- Document 02, Item 7: "14 goes and stays unassigned."
use mathlib.Core.Path.{◌≡◌, refl, sym}
use native.Mathlib.Omega.{arith}
use lib.Dec.{eqb}
use borrow.Author.Tests.{ne_eqb}
use Rattle.std.specs.Prelude.{Ok, Err}
use Rattle.answers.specs.declared.Refusal.{Refusal}
use Rattle.answers.specs.declared.Refusal.TheVariants as R
use Rattle.answers.specs.Answer.{Answer}
use Rattle.answers.specs.Numbers.{refusal_number, number_of, accepts}

refusal : (r : Refusal) → refusal_number r ≡ 14 → ⊥
refusal R.Limits e = omega arith
refusal R.Length e = omega arith
refusal R.Mark e = omega arith
refusal R.Seal e = omega arith
refusal R.OldSecret e = omega arith
refusal R.Counter e = omega arith
refusal (R.Altered p) e = omega arith
refusal R.PastEnd e = omega arith
refusal R.State e = omega arith
refusal R.SameSecret e = omega arith
refusal (R.Left k) e = omega arith
refusal R.Moved e = omega arith
refusal R.CounterTop e = omega arith
refusal R.EpochTop e = omega arith
refusal (R.Discarded n) e = omega arith

-- no answer has the number 14
pub no_fourteen : (a : Answer) → number_of a ≡ 14 → ⊥
no_fourteen (Ok x) e = omega arith
no_fourteen (Err r) e = refusal r e

-- a refusal's number is not acceptance's
above : (r : Refusal) → refusal_number r ≡ 0 → ⊥
above R.Limits e = omega arith
above R.Length e = omega arith
above R.Mark e = omega arith
above R.Seal e = omega arith
above R.OldSecret e = omega arith
above R.Counter e = omega arith
above (R.Altered p) e = omega arith
above R.PastEnd e = omega arith
above R.State e = omega arith
above R.SameSecret e = omega arith
above (R.Left k) e = omega arith
above R.Moved e = omega arith
above R.CounterTop e = omega arith
above R.EpochTop e = omega arith
above (R.Discarded n) e = omega arith

-- "A refusal carries one of fifteen numbers": an answer accepts if its number is 0
pub accepts_number : (a : Answer) → accepts a ≡ eqb (number_of a) 0
accepts_number (Ok x) = refl
accepts_number (Err r) = sym (ne_eqb (refusal_number r) 0 (above r))
