-- "let T be the flakes touched": those of a nugget that a range of offsets meets.
use Rattle.std.specs.Prelude.{ℕ, ◌+◌, ◌-◌, max, min, Bool, ltb, leb}
use Rattle.layout.specs.declared.Shape.{Shape}
use Rattle.layout.specs.Shape.{within}
use Rattle.layout.specs.Spots.{spot_at, offset_at, capacity}
use Rattle.records.specs.Journal.{flakes_with}
use Rattle.nuggets.specs.declared.Span.{Span}

-- flake f of nugget n has a byte of the range: the later of the two starts lies before the earlier of the two ends
unfoldable pub meets : Shape → ℕ → ℕ → ℕ → ℕ → Bool
meets s o len n f = ltb (max o (offset_at s n f 0)) (min (o + len) (offset_at s n f s.f))

unfoldable pub touched_of : Shape → ℕ → ℕ → ℕ → ℕ
touched_of s o len n = flakes_with s.p (meets s o len n)

-- the nuggets that a range of at least one byte meets: from that of its first byte to behind that of its last
abbrev pub span_of : Shape → ℕ → ℕ → Span
span_of s o len = record { first = (spot_at s o).nugget; end = (spot_at s (o + (len - 1))).nugget + 1 }

-- 8: "offset, length [..] past the end". "An offset equal to N P F is allowed with length 0 only." A shape out of limits has no bytes.
unfoldable pub fits_in : Shape → ℕ → ℕ → Bool
fits_in s o len = leb (o + len) (within s (capacity s))
