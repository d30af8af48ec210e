-- Nugget, flake and byte of an offset into the contents, and back.
use Rattle.std.specs.Prelude.{ℕ, ◌+◌, ◌*◌, ◌/◌, ◌%◌}
use Rattle.layout.specs.declared.Shape.{Shape}
use Rattle.layout.specs.declared.Spot.{Spot}

-- all offsets lie below N P F
abbrev pub capacity : Shape → ℕ
capacity s = s.n * s.p * s.f

abbrev pub spot_at : Shape → ℕ → Spot
spot_at s o = record { nugget = o / s.f / s.p; flake = o / s.f % s.p; byte = o % s.f }

-- no place of any shape
abbrev pub nowhere : Spot
nowhere = record { nugget = 0; flake = 0; byte = 0 }

abbrev pub offset_at : Shape → ℕ → ℕ → ℕ → ℕ
offset_at s n f b = (n * s.p + f) * s.f + b
