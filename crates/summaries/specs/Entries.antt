-- Document 02, Item 9: "for each tree node the moved nuggets and present flakes beneath it, and the present flakes in moved
-- nuggets, 4 bytes each".
use Prim.{tt}
use Rattle.std.specs.Prelude.{◌≡◌, ℕ, suc, ◌+◌, ◌-◌, ◌*◌, ◌<◌, ◌≤◌, Bool, false, List, [], ◌∷◌, length, ◌==◌, nat_lt}
use Rattle.std.proofs.lemmas.List.Edits.{sets}
use Rattle.base.specs.Pick.{pick, either}
use Rattle.base.specs.Lists.{part}
use Rattle.words.specs.Word.{add32}
use Rattle.codec.specs.Row.{Field, number, Values, ◌&◌, row, row_in}
use Rattle.heaps.specs.Paths.{stored_up, stored_down}
use Rattle.layout.specs.declared.Shape.{Shape}
use Rattle.layout.specs.Shape.{height_of, leaves}
use Rattle.records.specs.Record.{record_of}
use Rattle.reports.specs.declared.told.Counts.{Counts}
use Rattle.reports.specs.Counts.{count_of, none}

-- "12 × (2L - 1) bytes": an entry for each of the nodes 1 to 2L - 1
abbrev pub summary_length : ℕ → ℕ
summary_length n = 12 * (2 * leaves n - 1)

abbrev pub entry_at : ℕ → ℕ
entry_at i = 12 * (i - 1)

abbrev pub entry_row : List Field
entry_row = number 4 ∷ number 4 ∷ number 4 ∷ []

abbrev pub entry_values : Counts → Values entry_row
entry_values c = c.moved & c.flakes & c.done & tt

abbrev pub entry_from : Values entry_row → Counts
entry_from (m, (f, (d, _))) = record { moved = m; flakes = f; done = d }

-- the bytes of an entry, and the entry of node i
unfoldable pub entry_bytes : Counts → List ℕ
entry_bytes c = row entry_row (entry_values c)

abbrev pub entry_part : List ℕ → ℕ → List ℕ
entry_part b i = part (entry_at i) 12 b

unfoldable pub entry_in : List ℕ → ℕ → Counts
entry_in b i = entry_from (row_in entry_row (entry_at i) 0 b)

-- the sum of two entries; in bytes that are no summary it may roll over
unfoldable pub rolled : Counts → Counts → Counts
rolled a b = record { moved = add32 a.moved b.moved; flakes = add32 a.flakes b.flakes; done = add32 a.done b.done }

-- a nugget's leaf tells what its record counts for, a leaf past the nuggets nothing. A record that passes its test holds no
-- flake at or above P, so all 64 bits are counted.
unfoldable pub at_leaf : Shape → ℕ → List ℕ → ℕ → Counts
at_leaf s epoch v i = pick (nat_lt i (leaves s.n + s.n)) (count_of 64 epoch (record_of s v (i - leaves s.n))) none

-- "beneath it": a node above tells the sum of its two
unfoldable pub beneath : Shape → ℕ → List ℕ → List ℕ → ℕ → Counts
beneath s epoch v b i = pick (nat_lt i (leaves s.n)) (rolled (entry_in b (2 * i)) (entry_in b (2 * i + 1))) (at_leaf s epoch v i)

-- the entry of node i made anew, and nothing else
unfoldable pub put_entry : Shape → ℕ → List ℕ → ℕ → List ℕ → List ℕ
put_entry s epoch v i b = sets b (entry_at i) (entry_bytes (beneath s epoch v b i))

-- "Building it": nodes 2L - 1 down to 1
unfoldable pub built : Shape → ℕ → List ℕ → List ℕ → List ℕ
built s epoch v b = stored_down (put_entry s epoch v) (2 * leaves s.n - 1) b

-- "renewing one path": leaf L + n, then those above it up to node 1
unfoldable pub renewed : Shape → ℕ → List ℕ → ℕ → List ℕ → List ℕ
renewed s epoch v n b = stored_up (put_entry s epoch v) (suc (height_of s.n)) (leaves s.n + n) b

-- the paths of these nuggets, one after the other
unfoldable pub renewed_all : Shape → ℕ → List ℕ → List ℕ → List ℕ → List ℕ
renewed_all s epoch v [] b = b
renewed_all s epoch v (n ∷ ns) b = renewed_all s epoch v ns (renewed s epoch v n b)

-- a nugget is among these
unfoldable pub listed : List ℕ → ℕ → Bool
listed [] m = false
listed (n ∷ ns) m = either (n == m) (listed ns m)

-- "the summary that belongs to it": every entry is what it has to be
pub record Belongs (s : Shape) (epoch : ℕ) (v b : List ℕ) : Type 0 where
  pub long : length b ≡ summary_length s.n
  pub entries : (i : ℕ) → 1 ≤ i → i < 2 * leaves s.n → entry_part b i ≡ entry_bytes (beneath s epoch v b i)
