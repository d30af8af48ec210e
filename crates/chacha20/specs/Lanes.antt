-- Eight states that lie word by word: word k of the state in lane j is at 8 * k + j.
use Rattle.std.specs.Prelude.{◌≡◌, ℕ, zero, suc, ◌+◌, ◌*◌, ◌/◌, ◌%◌, ◌<◌, List, [], ◌++◌, length, ◌≢◌, slice_index, slice_set}
use Rattle.base.specs.Lists.{tab}
use Rattle.words.specs.Word.{add32}
use Rattle.words.specs.Le.{serialised}
use Rattle.chacha20.specs.ChaCha20.{block_from}

-- the state in lane j
unfoldable pub lane : List ℕ → ℕ → List ℕ
lane w j = tab 16 (λ k. slice_index w (8 * k + j))

-- v has s and t in lanes l and 4 + l, and in the others what w has
pub record LanesPut (l : ℕ) (s t w v : List ℕ) : Type 0 where
  pub long : length v ≡ length w
  pub low : lane v l ≡ s
  pub high : lane v (4 + l) ≡ t
  pub others : (j : ℕ) → j < 8 → (j % 4 ≢ l) → lane v j ≡ lane w j

-- lane by lane
pub record Each (f : List ℕ → List ℕ) (w v : List ℕ) : Type 0 where
  pub long : length v ≡ length w
  pub at : (j : ℕ) → j < 8 → lane v j ≡ f (lane w j)

-- the state of block j after that of s
unfoldable pub later : List ℕ → ℕ → List ℕ
later s j = slice_set s 12 (add32 (slice_index s 12) j)

-- s in every lane
unfoldable pub repeated : List ℕ → List ℕ
repeated s = tab 128 (λ n. slice_index s (n / 8))

-- the block counters of eight lanes, from c on
unfoldable pub counters : ℕ → List ℕ
counters c = tab 8 (λ j. add32 c j)

-- lane by lane the states of eight blocks, from that of s on
pub record Spread (s w : List ℕ) : Type 0 where
  pub at : (j : ℕ) → j < 8 → lane w j ≡ later s j

-- the sums of the words of both
unfoldable pub wide_added : List ℕ → List ℕ → List ℕ
wide_added w s = tab 128 (λ n. add32 (slice_index w n) (slice_index s n))

-- lanes 0 to n - 1 as bytes, one after the other
unfoldable pub lane_blocks : List ℕ → ℕ → List ℕ
lane_blocks x zero = []
lane_blocks x (suc n) = lane_blocks x n ++ serialised (lane x n)

-- n blocks from the counter of s on
unfoldable pub blocks_from : List ℕ → ℕ → List ℕ
blocks_from s zero = []
blocks_from s (suc n) = blocks_from s n ++ block_from (later s n)
