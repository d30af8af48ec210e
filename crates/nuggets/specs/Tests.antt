-- The tests of one nugget: "path; [..] flakes, ascending".
use Rattle.std.specs.Prelude.{ℕ, zero, suc, Bool, true, List}
use Rattle.std.specs.Int.Bits.{bit_and}
use Rattle.base.specs.Pick.{pick}
use Rattle.base.specs.Lists.{part, same}
use Rattle.layout.specs.declared.Shape.{Shape}
use Rattle.layout.specs.Parts.{tag_at}
use Rattle.answers.specs.Answer.{Answer}
use Rattle.answers.specs.Answer as A
use Rattle.answers.specs.declared.Place.TheVariants as P
use Rattle.answers.specs.Numbers.{accepts}
use Rattle.records.specs.Journal.{bit}
use Rattle.keys.specs.Tags.{tag_of}
use Rattle.tree.specs.Path.{path_of}
use Rattle.records.specs.Record.{record_of}
use Rattle.drive.specs.declared.Drive.{Drive}
use Rattle.drive.specs.Drive.{shape_of, gauge_of}
use Rattle.nuggets.specs.declared.Nugget.{Nugget}
use Rattle.nuggets.specs.Nugget.{nugget_of, stored_in}

-- "Tag = Poly1305 under the tag key over the stored flake."
unfoldable pub good_flake : Shape → List ℕ → Nugget → ℕ → Bool
good_flake s v g f = same (part (tag_at s g.lock.number f) 16 v) (tag_of g.lock f (stored_in s v g.lock.number f))

abbrev pub good_flake_of : Drive → List ℕ → ℕ → ℕ → Bool
good_flake_of d v n f = good_flake (shape_of d) v (nugget_of d v n) f

-- a flake outside the set isn't looked at
unfoldable pub passes : Shape → List ℕ → Nugget → ℕ → ℕ → Bool
passes s v g mask f = pick (bit mask f) (good_flake s v g f) true

-- "flakes, ascending": the k flakes from f on
unfoldable pub flakes_up : Shape → List ℕ → Nugget → ℕ → ℕ → ℕ → Answer
flakes_up s v g mask zero f = A.Accepted
flakes_up s v g mask (suc k) f = pick (passes s v g mask f) (flakes_up s v g mask k (suc f)) (A.Altered (P.Flake g.lock.number f))

-- the first flake of the set whose tag differs
unfoldable pub flakes_tested : Shape → List ℕ → Nugget → ℕ → Answer
flakes_tested s v g mask = flakes_up s v g mask s.p 0

abbrev pub flakes_of : Drive → List ℕ → ℕ → ℕ → Answer
flakes_of d v n mask = flakes_tested (shape_of d) v (nugget_of d v n) mask

-- the path of nugget n, its record held against the drive
abbrev pub path_for : Drive → List ℕ → ℕ → Answer
path_for d v n = path_of (shape_of d) (gauge_of d) v n

-- "each: path; [..] flakes"; "Read tests touched present flakes"
unfoldable pub nugget_read : Drive → List ℕ → ℕ → ℕ → Answer
nugget_read d v n touched =
    pick (accepts (path_for d v n)) (flakes_of d v n (bit_and (record_of (shape_of d) v n).held touched)) (path_for d v n)
