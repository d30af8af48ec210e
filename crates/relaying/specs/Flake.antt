-- A flake laid anew: its stored bytes opened, the written bytes laid over, the new pad over both; and the same byte by byte, in the
-- order in which it is done, which holds contents nowhere.
use Rattle.std.specs.Prelude.{ℕ, ◌+◌, ◌-◌, ◌<◌, ◌≤◌, ◌≡◌, Bool, true, false, List, leb, ltb, length, get_or}
use Rattle.std.specs.Int.Bits.{bit_xor}
use Rattle.base.specs.Pick.{pick, both}
use Rattle.base.specs.Lists.{tab}
use Rattle.records.specs.Journal.{bit}
use Rattle.keys.specs.declared.Lock.{Lock}
use Rattle.keys.specs.Pads.{pad_of, under}
use Rattle.drive.specs.Drive.{zeros}
use Rattle.nuggets.specs.declared.Nugget.{Nugget}
use Rattle.changes.specs.Laid.{over}

-- what the stored bytes of flake f read as: "Absent flakes give zeros."
unfoldable pub opened_flake : Nugget → ℕ → List ℕ → List ℕ
opened_flake g f l = pick (bit g.held f) (under g.lock f (length l) l) (zeros (length l))

-- contents whose first byte stands at offset start, with the written bytes laid over
unfoldable pub overlaid : ℕ → ℕ → List ℕ → List ℕ → List ℕ
overlaid start o bytes l = tab (length l) (λ b. over o bytes (start + b) (get_or l b 0))

-- the new contents
abbrev pub anew : Nugget → ℕ → ℕ → ℕ → List ℕ → List ℕ → List ℕ
anew g f start o bytes l = overlaid start o bytes (opened_flake g f l)

-- offset a lies among len bytes written from offset o on
abbrev pub written_at : ℕ → ℕ → ℕ → Bool
written_at o len a = both (leb o a) (ltb a (o + len))

-- size bytes from offset start on meet them in n bytes, from byte `at` of the first and byte `from` of the others on
pub record Met (start size o len at n from : ℕ) : Type 0 where
  pub room : at + n ≤ size
  pub short : from + n ≤ len
  pub before : (i : ℕ) → i < at → written_at o len (start + i) ≡ false
  pub inside : (i : ℕ) → at ≤ i → i < at + n → written_at o len (start + i) ≡ true
  pub byte : (i : ℕ) → at ≤ i → i < at + n → start + i - o ≡ from + (i - at)
  pub behind : (i : ℕ) → at + n ≤ i → i < size → written_at o len (start + i) ≡ false

-- x laid over k but for the bytes from `at` to `end`
unfoldable pub laid_beside : ℕ → ℕ → List ℕ → List ℕ → List ℕ
laid_beside at end x k = tab (length k) (λ i. pick (both (leb at i) (ltb i end)) (get_or k i 0) (bit_xor (get_or k i 0) (get_or x i 0)))

-- what byte j of flake f reads as, by the stored one
abbrev pub opened_byte : Nugget → ℕ → ℕ → ℕ → ℕ → ℕ
opened_byte g f size j x = pick (bit g.held f) (bit_xor x (get_or (pad_of g.lock f size) j 0)) 0

-- keystream k for the bytes of flake f from byte `at` on, which stands at offset start: over it the new contents
unfoldable pub relayed : Nugget → ℕ → ℕ → ℕ → ℕ → ℕ → List ℕ → List ℕ → List ℕ → List ℕ
relayed g f size at start o bytes stored k =
    tab (length k) (λ i. bit_xor (over o bytes (start + i) (opened_byte g f size (at + i) (get_or stored i 0))) (get_or k i 0))

-- byte j of flake f, whose first byte stands at offset start, laid anew
abbrev pub relaid_byte : Nugget → Lock → ℕ → ℕ → ℕ → ℕ → List ℕ → ℕ → ℕ → ℕ
relaid_byte g lock f size start o bytes j x = bit_xor (over o bytes (start + j) (opened_byte g f size j x)) (get_or (pad_of lock f size) j 0)

-- the piece of it from byte `at` on
unfoldable pub relaid : Nugget → Lock → ℕ → ℕ → ℕ → ℕ → List ℕ → ℕ → List ℕ → List ℕ
relaid g lock f size start o bytes at l = tab (length l) (λ i. relaid_byte g lock f size start o bytes (at + i) (get_or l i 0))
