-- This paper's number and values for each case of an answer. All promises use these.
use Rattle.std.specs.Prelude.{ℕ, Bool, Option, Some, None, Ok, Err, is_ok}
use Rattle.answers.specs.declared.Refusal.{Refusal}
use Rattle.answers.specs.declared.Refusal.TheVariants as R
use Rattle.answers.specs.declared.Carried.{Carried}
use Rattle.answers.specs.declared.Carried.TheVariants as C
use Rattle.answers.specs.Answer.{Answer}

-- "A refusal carries one of fifteen numbers"; document 02, Item 7: "14 goes and stays unassigned." Item 6: "then 16".
abbrev pub refusal_number : Refusal → ℕ
refusal_number R.Limits = 1
refusal_number R.Length = 2
refusal_number R.Mark = 3
refusal_number R.Seal = 4
refusal_number R.OldSecret = 5
refusal_number R.Counter = 6
refusal_number (R.Altered p) = 7
refusal_number R.PastEnd = 8
refusal_number R.State = 9
refusal_number R.SameSecret = 10
refusal_number (R.Left k) = 11
refusal_number R.Moved = 12
refusal_number R.CounterTop = 13
refusal_number R.EpochTop = 15
refusal_number (R.Discarded n) = 16

-- 0 is acceptance
abbrev pub number_of : Answer → ℕ
number_of (Ok x) = 0
number_of (Err r) = refusal_number r

-- 7: "altered, with its place"; 11: "carries how many"; 16: "some nugget .. (lowest reported)"; the others carry nothing
abbrev pub refusal_carries : Refusal → Option Carried
refusal_carries R.Limits = None
refusal_carries R.Length = None
refusal_carries R.Mark = None
refusal_carries R.Seal = None
refusal_carries R.OldSecret = None
refusal_carries R.Counter = None
refusal_carries (R.Altered p) = Some (C.At p)
refusal_carries R.PastEnd = None
refusal_carries R.State = None
refusal_carries R.SameSecret = None
refusal_carries (R.Left k) = Some (C.Many k)
refusal_carries R.Moved = None
refusal_carries R.CounterTop = None
refusal_carries R.EpochTop = None
refusal_carries (R.Discarded n) = Some (C.Nugget n)

abbrev pub carried_of : Answer → Option Carried
carried_of (Ok x) = None
carried_of (Err r) = refusal_carries r

-- the call is accepted
abbrev pub accepts : Answer → Bool
accepts a = is_ok a
