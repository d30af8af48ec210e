-- One summary belongs to a volume: it is what building gives, whatever the buffer held, and what renewing gives after a change.
use Rattle.std.proofs.Common.{◌≡◌, ℕ, zero, suc, ◌+◌, ◌-◌, ◌*◌, ◌<◌, ◌≤◌, true, false, eqb, List, [], ◌∷◌, ◌++◌, length, sym, refl, ap, ◌∙◌, ap₂, arith, take_all, eq-eqb, ne_eqb}
use Rattle.base.specs.Lists.{part}
use Rattle.base.specs.Pick.{either}
use Rattle.base.proofs.PickLaws.{clash, either_left, either_right}
use Rattle.base.proofs.PartLaws.{part-append}
use Rattle.heaps.specs.Heap.{GoodBut}
use Rattle.heaps.proofs.HeapLaws as Heaps
use Rattle.heaps.proofs.PathLaws.{path-leaf}
use Rattle.layout.specs.Shape.{height_of, leaves}
use Rattle.layout.specs.declared.Shape.{Shape}
use Rattle.layout.proofs.Limits.{Small}
use Rattle.records.specs.Record.{record_of}
use Rattle.summaries.specs.Entries.{summary_length, entry_at, entry_bytes, entry_part, built, renewed, renewed_all, listed, Belongs}
use Rattle.summaries.proofs.EntryLaws.{beneath-alike, beneath-same}
use Rattle.summaries.proofs.Heap.{sum_heap}

-- buffers of k entries that agree in each are one
rows-up : (k : ℕ) (b c : List ℕ) → ((i : ℕ) → i < k → part (12 * i) 12 b ≡ part (12 * i) 12 c) → part 0 (12 * k) b ≡ part 0 (12 * k) c
rows-up zero b c e = refl
rows-up (suc k) b c e =
    let q : 12 * suc k ≡ 12 * k + 12 = omega arith in
    rw q
    (sym (part-append 0 (12 * k) 12 (12 * k) b (omega arith)) ∙ ap₂ (λ (x y : List ℕ). x ++ y) (rows-up k b c (λ i h. e i (omega arith))) (e k (omega arith))
    ∙ part-append 0 (12 * k) 12 (12 * k) c (omega arith))

rows_same : (k : ℕ) (b c : List ℕ) → length b ≡ 12 * k → length c ≡ 12 * k → ((i : ℕ) → i < k → part (12 * i) 12 b ≡ part (12 * i) 12 c) → b ≡ c
rows_same k b c l m e =
    sym (take_all (12 * k) b (omega (arith, l))) ∙ rows-up k b c e ∙ take_all (12 * k) c (omega (arith, m))

module _ (s : Shape) (epoch : ℕ) (v : List ℕ) where
  -- no second one does
  pub belongs_once : (b c : List ℕ) → Belongs s epoch v b → Belongs s epoch v c → b ≡ c
  belongs_once b c x y =
      rows_same (2 * leaves s.n - 1) b c x.long y.long (λ i h. each i h)
    where
      same : (i : ℕ) → 1 ≤ i → i < 2 * leaves s.n → entry_part b i ≡ entry_part c i
      same =
          Heaps.by_two (height_of s.n) (λ i. entry_part b i ≡ entry_part c i)
          (λ i a l two. x.entries i a l ∙ ap entry_bytes (beneath-alike s epoch v b c i two) ∙ sym (y.entries i a l))

      each : (i : ℕ) → i < 2 * leaves s.n - 1 → part (12 * i) 12 b ≡ part (12 * i) 12 c
      each i h = let e : entry_at (suc i) ≡ 12 * i = omega arith in rw e at (same (suc i) (omega arith) (omega arith))

  -- "Building it": what is built belongs
  pub built_belongs : (b : List ℕ) → length b ≡ summary_length s.n → Belongs s epoch v (built s epoch v b)
  unfolding built
  built_belongs b l =
      record { long = Heaps.built_kin (sum_heap s epoch v) b ∙ l; entries = Heaps.built-good (sum_heap s epoch v) b l }

  -- and doesn't hang on what the buffer held
  pub built-once : (b c : List ℕ) → length b ≡ summary_length s.n → length c ≡ summary_length s.n → built s epoch v b ≡ built s epoch v c
  built-once b c l m = belongs_once (built s epoch v b) (built s epoch v c) (built_belongs b l) (built_belongs c m)

  -- a summary that belongs is the one that building gives
  pub belongs_built : (b c : List ℕ) → Belongs s epoch v b → length c ≡ summary_length s.n → b ≡ built s epoch v c
  belongs_built b c x l = belongs_once b (built s epoch v c) x (built_belongs c l)

  module _ (few : Small s) where
    pub length-renewed : (n : ℕ) (b : List ℕ) → n < s.n → length (renewed s epoch v n b) ≡ length b
    unfolding renewed
    length-renewed n b h = Heaps.renewed_kin (sum_heap s epoch v) n b (omega (arith, few.enough_leaves))

    -- the paths of some nuggets renewed, in any order: those aren't left to renew
    renewed-left : (ns : List ℕ) (D : ℕ → Type 0) (b : List ℕ) → length b ≡ summary_length s.n → ((n : ℕ) → listed ns n ≡ true → n < s.n)
        → GoodBut (sum_heap s epoch v) D b
        → (length (renewed_all s epoch v ns b) ≡ summary_length s.n) × GoodBut (sum_heap s epoch v) (λ m. D m × (listed ns m ≡ false)) (renewed_all s epoch v ns b)
    unfolding renewed_all renewed listed
    renewed-left [] D b l h g = (l, Heaps.but_more (sum_heap s epoch v) b D (λ m. D m × (false ≡ false)) (λ m k d. (d, refl)) g)
    renewed-left (n ∷ ns) D b l h g =
        let own : n < s.n = h n (either_left (listed ns n) (eq-eqb n n refl)) in
        let low : n < leaves s.n = omega (arith, few.enough_leaves) in
        let next = renewed-left ns (λ m. D m × (m ≡ n → ⊥)) (renewed s epoch v n b) (Heaps.renewed_kin (sum_heap s epoch v) n b low ∙ l)
        (λ m e. h m (either_right (eqb n m) e)) (Heaps.renewed_but (sum_heap s epoch v) n b low l D g) in (
          next.0,
          Heaps.but_more (sum_heap s epoch v) (renewed_all s epoch v ns (renewed s epoch v n b)) (λ m. (D m × (m ≡ n → ⊥)) × (listed ns m ≡ false))
              (λ m. D m × (either (eqb n m) (listed ns m) ≡ false)) (λ m k x. (x.0.0, off m x.0.1 x.1)) next.1,
        )
      where
        off : (m : ℕ) → (m ≡ n → ⊥) → listed ns m ≡ false → either (eqb n m) (listed ns m) ≡ false
        off m ne e = rw (ne_eqb n m (λ q. ne (sym q))) e

    -- renewing the paths of these nuggets, in any order, gives the summary that belongs, if no other path is left to renew
    pub renewed_belongs : (ns : List ℕ) (D : ℕ → Type 0) (b : List ℕ) → length b ≡ summary_length s.n → ((n : ℕ) → listed ns n ≡ true → n < s.n)
        → ((m : ℕ) → m < s.n → D m → listed ns m ≡ true) → GoodBut (sum_heap s epoch v) D b → Belongs s epoch v (renewed_all s epoch v ns b)
    renewed_belongs ns D b l h all g =
        let x = renewed-left ns D b l h g in
        record {
          long = x.0;
          entries =
              Heaps.none_left_lem (sum_heap s epoch v) (renewed_all s epoch v ns b)
              (Heaps.but_more (sum_heap s epoch v) (renewed_all s epoch v ns b) (λ m. D m × (listed ns m ≡ false)) (λ m. ⊥) (λ m k q. clash (all m k q.0) q.1) x.1);
        }

-- records of some nuggets changed: their paths are left to renew
changed_but : (s : Shape) (epoch : ℕ) (v w : List ℕ) (E : ℕ → Type 0) (b : List ℕ) → ((m : ℕ) → m < s.n → (E m → ⊥) → record_of s v m ≡ record_of s w m)
    → Belongs s epoch v b → GoodBut (sum_heap s epoch w) E b
changed_but s epoch v w E b same x i a l none =
    x.entries i a l ∙ ap entry_bytes (beneath-same s epoch v w b i leaf)
  where
    leaf : leaves s.n ≤ i → i < leaves s.n + s.n → record_of s v (i - leaves s.n) ≡ record_of s w (i - leaves s.n)
    leaf h k =
        let m = i - leaves s.n in
        let e : leaves s.n + m ≡ i = omega arith in
        same m (omega arith) (λ q. clash (rw e at (path-leaf (height_of s.n) m)) (none m (omega arith) q))

-- "renewing one path after each change, gives the same summary as building it afresh": for any set E of changed nuggets and
-- any list of nuggets that has them all, in whatever order
pub renewed_is_built : (s : Shape) (epoch : ℕ) (v w : List ℕ) (E : ℕ → Type 0) (ns b : List ℕ) → Small s
    → ((m : ℕ) → m < s.n → (E m → ⊥) → record_of s v m ≡ record_of s w m) → ((m : ℕ) → m < s.n → E m → listed ns m ≡ true)
    → ((n : ℕ) → listed ns n ≡ true → n < s.n) → Belongs s epoch v b → renewed_all s epoch w ns b ≡ built s epoch w b
renewed_is_built s epoch v w E ns b few same all inside x =
    belongs_built s epoch w (renewed_all s epoch w ns b) b (renewed_belongs s epoch w few ns E b x.long inside all (changed_but s epoch v w E b same x)) x.long

-- what is renewed with no change between stays
pub same_belongs : (s : Shape) (epoch : ℕ) (v w b : List ℕ) → ((m : ℕ) → m < s.n → record_of s v m ≡ record_of s w m) → Belongs s epoch v b → Belongs s epoch w b
same_belongs s epoch v w b same x =
    record { long = x.long; entries = λ i a l. x.entries i a l ∙ ap entry_bytes (beneath-same s epoch v w b i (λ h k. same (i - leaves s.n) (omega arith))) }
