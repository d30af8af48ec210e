-- What the fleet's line says of the lines that were read.
use Rattle.std.specs.Prelude.{ℕ, ◌≤◌, ◌<◌, ◌≡◌, true, false, ◌⊎◌, List, [], map, length, get_or}
use Rattle.standings.specs.declared.Standing.{Standing}
use Rattle.standings.specs.Standing.{standing_in, taken}
use Rattle.fleets.specs.Lines.{lines_of}

-- the drives of a text, line by line
abbrev pub drives_in : List ℕ → List Standing
drives_in i = map standing_in (lines_of i)

-- every line is taken, and there are so many at most
pub record AllTaken (most : ℕ) (ls : List (List ℕ)) : Type 0 where
  pub few : length ls ≤ most
  pub each : (k : ℕ) → k < length ls → taken (get_or ls k []) ≡ true

-- the lines before line k, from 0 on, are taken; it isn't, or it is one too many
pub record FirstBad (most : ℕ) (ls : List (List ℕ)) (k : ℕ) : Type 0 where
  pub inside : k < length ls
  pub few : k ≤ most
  pub before : (j : ℕ) → j < k → taken (get_or ls j []) ≡ true
  pub bad : (taken (get_or ls k []) ≡ false) ⊎ (k ≡ most)
