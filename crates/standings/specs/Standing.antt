-- Document 02, Item 11: a drive's line, as it is written and as it is read.
use Rattle.std.specs.Prelude.{ℕ, ◌-◌, ◌*◌, min, Bool, List, leb, Option, None, Some}
use Rattle.base.specs.Pick.{pick, both}
use Rattle.base.specs.Lists.{same}
use Rattle.reports.specs.Counts.{share_of}
use Rattle.line.specs.Lines.{report_text}
use Rattle.line.specs.Reading.{field_at, decimal_value}
use Rattle.standings.specs.declared.Standing.{Standing}

-- the sheet's line of n nuggets with these counts, without its newline; the share is Item 1's
unfoldable pub standing_text : Standing → List ℕ
standing_text t = let c = t.counts in report_text t.n c.moved (t.n - c.moved) c.flakes (share_of t.n c) c.done

-- what a volume within the limits can give: "Nuggets N: 1 to 16,384. Flakes per nugget P: 1 to 64." No more nuggets have moved
-- than there are; moved nuggets hold the flakes done, 64 each at most, and the nuggets left the others
unfoldable pub possible : Standing → Bool
possible t =
    let c = t.counts in
    both (leb 1 t.n)
    (both (leb t.n 16384)
    (both (leb c.moved t.n)
    (both (leb c.done c.flakes) (both (leb c.done (64 * c.moved)) (leb (c.flakes - c.done) (64 * (t.n - c.moved)))))))

-- what a line tells: its numbers but the left ones and the share, which follow from the others
unfoldable pub standing_in : List ℕ → Standing
standing_in l = record { n = decimal_value (field_at 0 l); counts = record { moved = decimal_value (field_at 1 l); flakes = decimal_value (field_at 3 l); done = decimal_value (field_at 5 l) } }

-- a line is taken if what it tells is possible and it is the line of that, to the byte; not one "that is refused, that no
-- volume within the limits could give"
unfoldable pub taken : List ℕ → Bool
taken l = both (possible (standing_in l)) (same (standing_text (standing_in l)) l)

-- what it tells if it is taken
unfoldable pub found_in : List ℕ → Option Standing
found_in l = pick (taken l) (Some (standing_in l)) None

-- the code reads no number above 2^21: none that is possible is above 2^20
abbrev pub at_most : ℕ → ℕ
at_most n = min 2097152 n

abbrev pub told_in : List ℕ → Standing
told_in l = record { n = at_most (standing_in l).n; counts = record { moved = at_most (standing_in l).counts.moved; flakes = at_most (standing_in l).counts.flakes; done = at_most (standing_in l).counts.done } }
