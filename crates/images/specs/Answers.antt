-- The answer's image, 16 bytes: "0-3 number (0 accepted); 4-7 kind of place (0 none, 1 head, 2 record, 3 node, 4 flake); 8-11
-- first value (record, node, nugget of a flake; for 11 how many are left; for 16 the nugget); 12-15 second value (the flake). What
-- isn't carried is zero."
use Prim.{tt}
use Rattle.std.specs.Prelude.{ℕ, List, [], ◌∷◌, Option, Some, None}
use Rattle.codec.specs.Row.{Field, number, Values, ◌&◌, row}
use Rattle.answers.specs.Answer.{Answer}
use Rattle.answers.specs.declared.Carried.{Carried}
use Rattle.answers.specs.declared.Carried.TheVariants as K
use Rattle.answers.specs.declared.Place.{Place}
use Rattle.answers.specs.declared.Place.TheVariants as P
use Rattle.answers.specs.Numbers.{number_of, carried_of}

abbrev pub kind_at : Place → ℕ
kind_at P.Head = 1
kind_at (P.Record n) = 2
kind_at (P.Node i) = 3
kind_at (P.Flake n f) = 4

abbrev pub first_at : Place → ℕ
first_at P.Head = 0
first_at (P.Record n) = n
first_at (P.Node i) = i
first_at (P.Flake n f) = n

abbrev pub second_at : Place → ℕ
second_at P.Head = 0
second_at (P.Record n) = 0
second_at (P.Node i) = 0
second_at (P.Flake n f) = f

abbrev pub kind_of : Option Carried → ℕ
kind_of None = 0
kind_of (Some (K.At p)) = kind_at p
kind_of (Some (K.Many k)) = 0
kind_of (Some (K.Nugget n)) = 0

abbrev pub first_of : Option Carried → ℕ
first_of None = 0
first_of (Some (K.At p)) = first_at p
first_of (Some (K.Many k)) = k
first_of (Some (K.Nugget n)) = n

abbrev pub second_of : Option Carried → ℕ
second_of None = 0
second_of (Some (K.At p)) = second_at p
second_of (Some (K.Many k)) = 0
second_of (Some (K.Nugget n)) = 0

-- number, kind of place, first value, second value
abbrev pub answer_row : List Field
answer_row = number 4 ∷ number 4 ∷ number 4 ∷ number 4 ∷ []

abbrev pub answer_values : Answer → Values answer_row
answer_values a = number_of a & kind_of (carried_of a) & first_of (carried_of a) & second_of (carried_of a) & tt

unfoldable pub answer_image : Answer → List ℕ
answer_image a = row answer_row (answer_values a)
