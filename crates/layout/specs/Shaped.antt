-- What every function over a lent volume asks.
use Rattle.std.specs.Prelude.{◌≡◌, true, List, ℕ, length}
use Rattle.layout.specs.Shape.{in_limits}
use Rattle.layout.specs.Parts.{length_of}
use Rattle.layout.specs.declared.Shape.{Shape}

-- the shape is in limits, and the volume's length is "the sum of the parts"
pub record Shaped (s : Shape) (v : List ℕ) : Type 0 where
  pub limited : in_limits s ≡ true
  pub size : length v ≡ length_of s
