-- Document 02, Item 11: "A program reads such lines from standard input, one per drive, and prints one line".
use Rattle.std.specs.Prelude.{ℕ, ◌+◌, ◌-◌, Bool, List, [], ◌∷◌, ◌++◌, eqb, ltb, length, get_or, Ok, Err}
use Rattle.base.specs.Pick.{pick, both}
use Rattle.line.specs.Decimal.{decimal}
use Rattle.line.specs.Lines.{newline}
use Rattle.standings.specs.Standing.{standing_text, standing_in, taken}
use Rattle.totals.specs.declared.Fleet.{Fleet}
use Rattle.fleets.specs.Gathered.{Gathered}
use Rattle.fleets.specs.Gathered as G
use Rattle.fleets.specs.Texts.{t_drives, t_last, t_open}
use Rattle.totals.specs.Fleet.{nobody, joined}

-- a byte in front of the first line
abbrev pub before : ℕ → List (List ℕ) → List (List ℕ)
before b [] = (b ∷ []) ∷ []
before b (l ∷ ls) = (b ∷ l) ∷ ls

-- the lines of a text: each ends in one newline, and a last one without it counts
unfoldable pub lines_of : List ℕ → List (List ℕ)
lines_of [] = []
lines_of (b ∷ t) = pick (eqb b 10) ([] ∷ lines_of t) (before b (lines_of t))

-- how long a piece is without the newline at its end, which the last line may lack
abbrev pub unended : List ℕ → ℕ
unended x = pick (eqb (get_or x (length x - 1) 0) 10) (length x - 1) (length x)

-- the next line is taken and isn't "the 257th"
unfoldable pub goes : Fleet → List ℕ → Bool
goes f l = both (ltb f.drives 256) (taken l)

-- the fleet with one line more, or that line's number
unfoldable pub with_line : Fleet → List ℕ → Gathered
with_line f l = pick (goes f l) (G.Whole (joined f (standing_in l))) (G.Open (f.drives + 1))

-- the lines in turn: "The first line that is refused, that no volume within the limits could give, or that is the 257th" ends it
unfoldable pub gather_from : Fleet → List (List ℕ) → Gathered
gather_from f [] = G.Whole f
gather_from f (l ∷ ls) = pick (goes f l) (gather_from (joined f (standing_in l)) ls) (G.Open (f.drives + 1))

unfoldable pub gathered_in : List ℕ → Gathered
gathered_in i = gather_from nobody (lines_of i)

-- "prints `open=` and its number"
unfoldable pub open_line : ℕ → List ℕ
open_line k = t_open ++ (decimal k ++ newline)

-- "`drives=`, the totals in the sheet's fields, the share among them worked out from the totals as in Item 1, and `last=`, the
-- line number of the drive furthest behind"
unfoldable pub closed_line : Fleet → List ℕ
closed_line f = t_drives ++ (decimal f.drives ++ (32 ∷ (standing_text f.total ++ (t_last ++ (decimal f.last ++ newline)))))

-- "an empty list prints `open=0`"
abbrev pub printed : Gathered → List ℕ
printed (Ok f) = pick (eqb f.drives 0) (open_line 0) (closed_line f)
printed (Err o) = open_line o.line

-- the line for any input
unfoldable pub fleet_line : List ℕ → List ℕ
fleet_line i = printed (gathered_in i)
