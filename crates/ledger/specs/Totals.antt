-- Demand 3: "Entries listed equal flakes now present plus, for each keycount rise, its nugget's flakes present just before."
-- Document 02, Item 4: what is present "reads as spent in demand 3's totals".
use Rattle.std.specs.Prelude.{ℕ, zero, suc, ◌+◌, ltb}
use Rattle.base.specs.Pick.{pick}
use Rattle.records.specs.declared.Record.{Record}
use Rattle.records.specs.Journal.{flake_count}

-- g 0 + g 1 + .. + g (n - 1)
unfoldable pub sum : ℕ → (ℕ → ℕ) → ℕ
sum zero g = 0
sum (suc n) g = sum n g + g n

-- "flakes now present": of each of the first n nuggets, those below P that are spent
abbrev pub spent_in : ℕ → ℕ → (ℕ → Record) → ℕ
spent_in p n records = sum n (λ i. flake_count p (records i).spent)

-- "for each keycount rise, its nugget's flakes present just before"
abbrev pub retired_of : ℕ → Record → Record → ℕ
retired_of p before after = pick (ltb before.keycount after.keycount) (flake_count p before.spent) 0

-- those of the first n nuggets, by their records before and after a call alone
abbrev pub risen : ℕ → ℕ → (ℕ → Record) → (ℕ → Record) → ℕ
risen p n before after = sum n (λ i. retired_of p (before i) (after i))
