-- Document 02, Item 6: "then 16 [..] when moving down and some nugget has a spent flake that isn't held (lowest reported)". Proved, under
-- the same name in small letters, in proofs/Spent.antt.
use Rattle.std.specs.Prelude.{ℕ, ◌<◌, ◌≡◌, true, List}
use Rattle.answers.specs.Answer as A
use Rattle.layout.specs.declared.Shape.{Shape}
use Rattle.records.specs.Journal.{bit}
use Rattle.records.specs.Record.{record_of}
use Rattle.tree.specs.Whole.{whole_of}
use Rattle.drive.specs.declared.Drive.{Drive}
use Rattle.drive.specs.Drive.{shape_of, gauge_of}
use Rattle.moving.specs.Move.{ascending, kept_tests}

-- every spent flake of nugget n is held
abbrev pub AllHeld : Shape → List ℕ → ℕ → Type 0
AllHeld s v n = (f : ℕ) → bit (record_of s v n).spent f ≡ true → bit (record_of s v n).held f ≡ true

-- Behind 7 whole the test of the masks gives 16 with the lowest nugget that has a spent flake which isn't held, and passes only if
-- there is none.
pub record Lowest (s : Shape) (v : List ℕ) (n : ℕ) : Type 0 where
  pub inside : n < s.n
  pub not_all : AllHeld s v n → ⊥
  pub below : (m : ℕ) → m < n → AllHeld s v m

abbrev pub SixteenTells : Type 0
SixteenTells =
    (d : Drive) (v : List ℕ) → whole_of (shape_of d) (gauge_of d) v ≡ A.Accepted
    → ((n : ℕ) → ascending (kept_tests (shape_of d) v) d.n 0 ≡ A.Discarded n → Lowest (shape_of d) v n)
    × (ascending (kept_tests (shape_of d) v) d.n 0 ≡ A.Accepted → (n : ℕ) → n < d.n → AllHeld (shape_of d) v n)
