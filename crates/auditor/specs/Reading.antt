-- How the page is read: from its bytes alone, with no knowledge of how they were made. Lines, fields and numbers are `line`'s.
use Rattle.std.specs.Prelude.{ℕ, suc, ◌+◌, ◌-◌, ◌*◌, List, [], ◌∷◌, eqb}
use Rattle.base.specs.Pick.{pick}
use Rattle.base.specs.Lists.{same}
use Rattle.line.specs.Reading.{line_at, field_at, decimal_value}
use Rattle.pages.specs.Words.{t_none}

-- the numbers between commas
unfoldable pub numbers_from : ℕ → List ℕ → List ℕ
numbers_from a [] = a ∷ []
numbers_from a (b ∷ l) = pick (eqb b 44) (a ∷ numbers_from 0 l) (numbers_from (a * 10 + (b - 48)) l)

-- a list of flakes; `-` says that there is none
unfoldable pub flakes_read : List ℕ → List ℕ
flakes_read l = pick (same l t_none) [] (numbers_from 0 l)

-- what a nugget's line tells
pub record Told : Type 0 where
  pub nugget : ℕ
  pub key : List ℕ
  pub epoch : ℕ
  pub keycount : ℕ
  pub flakes : List ℕ

abbrev pub line_read : List ℕ → Told
line_read l =
    record {
      nugget = decimal_value (field_at 0 l);
      key = field_at 1 l;
      epoch = decimal_value (field_at 2 l);
      keycount = decimal_value (field_at 3 l);
      flakes = flakes_read (field_at 4 l);
    }

-- the line of nugget n stands behind the sheet's line and those of the nuggets before it
abbrev pub told_of : List ℕ → ℕ → Told
told_of page n = line_read (line_at (suc n) page)

-- the counter's line comes behind those of all n nuggets
abbrev pub counter_told : List ℕ → ℕ → ℕ
counter_told page n = decimal_value (field_at 0 (line_at (suc n) page))

-- the word of the last line, behind the counter's
abbrev pub old_told : List ℕ → ℕ → List ℕ
old_told page n = field_at 0 (line_at (suc (suc n)) page)

-- how often a flake is listed
unfoldable pub times_listed : ℕ → List ℕ → ℕ
times_listed f [] = 0
times_listed f (g ∷ l) = pick (eqb f g) 1 0 + times_listed f l
