use lib.Dec.{lit<}
use native.Mathlib.Nat.{mul-le-mul, le_of_lt, lt_of_le_of_lt}
use Rattle.layout.proofs.times.Goals as goal

pub overflow_mul-result : goal.overflow_mul-result
overflow_mul-result c = record { fits = lt_of_le_of_lt (mul-le-mul (le_of_lt c.requires.0) (le_of_lt c.requires.1)) (lit< tt) }
