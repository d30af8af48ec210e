-- Nodes 1 to 2L - 1, L = 2 ^ h: node i stands over nodes 2i and 2i + 1, and leaf n is node L + n.
use Rattle.std.specs.Prelude.{Bool, false, ℕ, zero, suc, ◌+◌, ◌*◌, ◌/◌, ◌^◌, ◌<◌, ◌≤◌, eqb}
use Rattle.base.specs.Pick.{either}

-- node i and those above it, up to node 1, are k nodes
pub record Rises (k i : ℕ) : Type 0 where
  pub reaches : 2 ^ k ≤ 2 * i + 1
  pub ends : i < 2 ^ k

-- node i is node j, or one of those above it, k in all
unfoldable pub upward : ℕ → ℕ → ℕ → Bool
upward zero j i = false
upward (suc k) j i = either (eqb j i) (upward k (j / 2) i)

-- node i is leaf n, or stands above it
unfoldable pub on_path : ℕ → ℕ → ℕ → Bool
on_path h n i = upward (suc h) (2 ^ h + n) i

-- node i and those above it, k in all, stored one after another
unfoldable pub stored_up : {X : Type 0} → (ℕ → X → X) → ℕ → ℕ → X → X
stored_up put zero i x = x
stored_up put (suc k) i x = stored_up put k (i / 2) (put i x)

-- nodes k down to 1
unfoldable pub stored_down : {X : Type 0} → (ℕ → X → X) → ℕ → X → X
stored_down put zero x = x
stored_down put (suc k) x = stored_down put k (put (suc k) x)
