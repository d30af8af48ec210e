-- Where the renewal of a path begins.
use Rattle.std.proofs.Common.{◌≡◌, ℕ, suc, ◌+◌, ◌*◌, ◌<◌, List, length, refl, arith}
use Rattle.heaps.specs.Paths.{Rises, stored_up}
use Rattle.heaps.proofs.PathLaws.{rises-leaf}
use Rattle.layout.specs.Shape.{height_of, leaves}
use Rattle.layout.specs.declared.Shape.{Shape}
use Rattle.layout.proofs.Limits.{Small}
use Rattle.summaries.specs.Entries.{put_entry, renewed}

pub path-starts : (s : Shape) (epoch : ℕ) (v b : List ℕ) (n : ℕ) {k i : ℕ} → Small s → n < s.n → k ≡ suc (height_of s.n) → i ≡ leaves s.n + n
    → Rises k i × (i < 2 * leaves s.n) × (length b ≡ length b) × (stored_up (put_entry s epoch v) k i b ≡ renewed s epoch v n b)
unfolding renewed
path-starts s epoch v b n q h ek ei =
    let low : n < leaves s.n = omega (arith, q.enough_leaves) in
    rw (ek, ei) (rises-leaf (height_of s.n) n low, omega arith, refl, refl)
