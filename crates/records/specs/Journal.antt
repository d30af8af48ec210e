-- Journals as sets of flakes: a flake is in the set if its bit is set.
use Rattle.std.specs.Prelude.{ℕ, zero, suc, ◌+◌, ◌/◌, ◌%◌, ◌^◌, Bool, eqb, leb, ltb}
use Rattle.std.specs.Int.Bits.{bit_and, bit_or, bit_xor}
use Rattle.base.specs.Pick.{pick, both}

-- "Bit f of a journal (lowest first) says that flake f is present."
unfoldable pub bit : ℕ → ℕ → Bool
bit j f = eqb (j / 2 ^ f % 2) 1

-- "J with T"
abbrev pub union : ℕ → ℕ → ℕ
union j t = bit_or j t

-- the first set without the flakes of the second
unfoldable pub without : ℕ → ℕ → ℕ
without j m = bit_xor j (bit_and j m)

-- "J and T share none"
unfoldable pub share_none : ℕ → ℕ → Bool
share_none j t = eqb (bit_and j t) 0

-- each flake of the first set is in the second
unfoldable pub lies_in : ℕ → ℕ → Bool
lies_in j t = eqb (bit_and j t) j

-- the set of the flakes below n for which the test holds
unfoldable pub flakes_with : ℕ → (ℕ → Bool) → ℕ
flakes_with zero g = 0
flakes_with (suc n) g = flakes_with n g + pick (g n) (2 ^ n) 0

-- the flakes from the first to the last, both among them; there is no flake past 63
abbrev pub flakes_from : ℕ → ℕ → ℕ
flakes_from first last = flakes_with 64 (λ f. both (leb first f) (leb f last))

-- "a flake range": from the first on, as many as the count
abbrev pub flake_range : ℕ → ℕ → ℕ
flake_range first count = flakes_with 64 (λ f. both (leb first f) (ltb f (first + count)))

-- all P flakes of a nugget
abbrev pub all_flakes : ℕ → ℕ
all_flakes p = flakes_with 64 (λ f. ltb f p)

-- how many of the numbers below n pass the test
unfoldable pub many : ℕ → (ℕ → Bool) → ℕ
many zero g = 0
many (suc n) g = many n g + pick (g n) 1 0

-- "flakes present": how many flakes below P are in the journal
abbrev pub flake_count : ℕ → ℕ → ℕ
flake_count p j = many p (bit j)
