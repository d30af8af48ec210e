-- What a report counts, read from the records, and the share.
use Rattle.std.specs.Prelude.{ℕ, zero, suc, ◌+◌, ◌*◌, ◌/◌, min, Bool, List, eqb, ltb}
use Rattle.base.specs.Pick.{pick}
use Rattle.layout.specs.declared.Shape.{Shape}
use Rattle.records.specs.declared.Record.{Record}
use Rattle.records.specs.Journal.{many, flake_count}
use Rattle.records.specs.Record.{record_of}
use Rattle.reports.specs.declared.told.Counts.{Counts}

-- "moved (epoch equal to the head's)"
abbrev pub is_moved : Shape → ℕ → List ℕ → ℕ → Bool
is_moved s epoch v n = eqb (record_of s v n).epoch epoch

-- "nuggets moved": how many of the first k
abbrev pub moved_in : Shape → ℕ → List ℕ → ℕ → ℕ
moved_in s epoch v k = many k (is_moved s epoch v)

-- "flakes present": of each of the first k nuggets, how many flakes below p it holds
unfoldable pub flakes_in : Shape → ℕ → List ℕ → ℕ → ℕ
flakes_in s p v zero = 0
flakes_in s p v (suc k) = flakes_in s p v k + flake_count p (record_of s v k).held

-- what one record counts for: its nugget if that has moved, its present flakes, and these once more if the nugget has moved
unfoldable pub count_of : ℕ → ℕ → Record → Counts
count_of p epoch r =
    let flakes = flake_count p r.held in
    record { moved = pick (eqb r.epoch epoch) 1 0; flakes = flakes; done = pick (eqb r.epoch epoch) flakes 0 }

abbrev pub none : Counts
none = record { moved = 0; flakes = 0; done = 0 }

abbrev pub plus : Counts → Counts → Counts
plus a b = record { moved = a.moved + b.moved; flakes = a.flakes + b.flakes; done = a.done + b.done }

-- the counts of the first k records
unfoldable pub counts_in : Shape → ℕ → ℕ → List ℕ → ℕ → Counts
counts_in s p epoch v zero = none
counts_in s p epoch v (suc k) = plus (counts_in s p epoch v k) (count_of p epoch (record_of s v k))

-- Document 02, Item 1: "present flakes in moved nuggets × 10,000 / all present flakes, rounded down; with no flake
-- present the nugget share stands": hundredths of a percent
unfoldable pub exact_of : ℕ → Counts → ℕ
exact_of n c = pick (eqb c.flakes 0) (c.moved * 10000 / n) (c.done * 10000 / c.flakes)

-- "while any nugget is left the figure is at most 99.99"; no figure is above 100.00
abbrev pub cap_of : ℕ → Counts → ℕ
cap_of n c = pick (ltb c.moved n) 9999 10000

unfoldable pub share_of : ℕ → Counts → ℕ
share_of n c = min (cap_of n c) (exact_of n c)
