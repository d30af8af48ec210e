-- Document 02, Item 11: the drives of a fleet, their totals, and the drive furthest behind.
use Rattle.std.specs.Prelude.{ℕ, ◌+◌, ◌*◌, ◌≤◌, ◌<◌, ◌≡◌, Bool, true, false, List, [], ◌∷◌, eqb, ltb, length, get_or}
use Rattle.base.specs.Pick.{pick, either}
use Rattle.base.specs.Lists.{fold}
use Rattle.reports.specs.Counts.{none, plus}
use Rattle.standings.specs.declared.Standing.{Standing}
use Rattle.totals.specs.declared.Fleet.{Fleet}
use Rattle.totals.specs.declared.Fraction.{Fraction}

-- "the smallest exact fraction, Item 1's before rounding and cap": present flakes in moved nuggets of all present flakes; with
-- no flake present moved nuggets of all
unfoldable pub fraction_of : Standing → Fraction
fraction_of t = let c = t.counts in pick (eqb c.flakes 0) (record { done = c.moved; all = t.n }) (record { done = c.done; all = c.flakes })

-- a's fraction is smaller than b's
unfoldable pub is_behind : Standing → Standing → Bool
is_behind a b = let x = fraction_of a in let y = fraction_of b in ltb (x.done * y.all) (y.done * x.all)

-- "the totals in the sheet's fields"
abbrev pub together : Standing → Standing → Standing
together a b = record { n = a.n + b.n; counts = plus a.counts b.counts }

abbrev pub nothing : Standing
nothing = record { n = 0; counts = none }

abbrev pub nobody : Fleet
nobody = record { drives = 0; total = nothing; last = 0; least = nothing }

-- "the drive furthest behind": the first drive, and each that is behind all before it; so "the earliest line wins a tie"
unfoldable pub is_last : Fleet → Standing → Bool
is_last f t = either (eqb f.drives 0) (is_behind t f.least)

-- the fleet with one drive more
unfoldable pub joined : Fleet → Standing → Fleet
joined f t =
    record {
      drives = f.drives + 1;
      total = together f.total t;
      last = pick (is_last f t) (f.drives + 1) f.last;
      least = pick (is_last f t) t f.least;
    }

-- the fleet of these drives
abbrev pub fleet_of : List Standing → Fleet
fleet_of ts = fold joined nobody ts

-- how great the totals of so many drives can be
pub record Summed (f : Fleet) : Type 0 where
  pub sum_n : f.total.n ≤ f.drives * 16384
  pub sum_moved : f.total.counts.moved ≤ f.total.n
  pub sum_flakes : f.total.counts.flakes ≤ f.drives * 1048576
  pub sum_done : f.total.counts.done ≤ f.total.counts.flakes

-- drive k of a list, from 0 on
abbrev pub drive_at : List Standing → ℕ → Standing
drive_at ts k = get_or ts k nothing

-- a column's total
unfoldable pub sum_of : (Standing → ℕ) → List Standing → ℕ
sum_of g [] = 0
sum_of g (t ∷ ts) = g t + sum_of g ts

-- drive k is "the drive furthest behind": no fraction is smaller, and "the earliest line wins a tie": all before it are greater
pub record Furthest (ts : List Standing) (k : ℕ) : Type 0 where
  pub inside : k < length ts
  pub least : (j : ℕ) → j < length ts → is_behind (drive_at ts j) (drive_at ts k) ≡ false
  pub earliest : (j : ℕ) → j < k → is_behind (drive_at ts k) (drive_at ts j) ≡ true
