-- The top entry of a summary that belongs is the sum over all records.
use Rattle.std.proofs.Common.{◌≡◌, ℕ, zero, suc, ◌+◌, ◌-◌, ◌*◌, ◌%◌, ◌^◌, ◌<◌, ◌≤◌, true, false, eqb, ltb, ◌⊎◌, List, refl, ap, ◌∙◌, ap₂, inl, inr, pow-suc, arith, ltb-false, ltb-true}
use Rattle.base.proofs.PickLaws.{told}
use Rattle.heaps.proofs.HeapLaws.{by_two}
use Rattle.layout.specs.Shape.{height_of, leaves}
use Rattle.layout.specs.declared.Shape.{Shape}
use Rattle.layout.proofs.Limits.{Small}
use Rattle.records.specs.declared.Record.{Record}
use Rattle.records.specs.Record.{record_of}
use Rattle.tree.specs.Whole.{HasHeight}
use Rattle.tree.proofs.Heights.{stands_left, stands_right, stands_inner, stands_last, stands_some, stands_bottom, stands_top}
use Rattle.reports.specs.declared.told.Counts.{Counts}
use Rattle.reports.specs.Counts.{count_of, none, plus, counts_in}
use Rattle.summaries.specs.Entries.{entry_in, rolled, at_leaf, beneath, Belongs}
use Rattle.summaries.proofs.EntryLaws.{entry_read, beneath_narrow, beneath-two, beneath-leaf, leaf-nugget, leaf-past, leaf-few}

counts_are : {a b : Counts} → a.moved ≡ b.moved → a.flakes ≡ b.flakes → a.done ≡ b.done → a ≡ b
counts_are m f d = λ i. record { moved = m i; flakes = f i; done = d i }

module _ (s : Shape) (epoch : ℕ) (v : List ℕ) where
  -- the first k leaves
  unfoldable pub leaves_to : ℕ → Counts
  leaves_to zero = none
  leaves_to (suc k) = plus (leaves_to k) (at_leaf s epoch v (leaves s.n + k))

  up-few : (k : ℕ) → ((leaves_to k).moved ≤ k) × ((leaves_to k).flakes ≤ 64 * k) × ((leaves_to k).done ≤ 64 * k)
  unfolding leaves_to
  up-few zero = (omega arith, omega arith, omega arith)
  up-few (suc k) =
      let few = leaf-few s epoch v (leaves s.n + k) in
      let h = up-few k in
      (omega (arith, few.0, h.0), omega (arith, few.1, h.1), omega (arith, few.2, h.2))

  -- those of the nuggets count for the records, those behind them for nothing
  up-records : (k : ℕ) → k ≤ s.n → leaves_to k ≡ counts_in s 64 epoch v k
  unfolding leaves_to counts_in
  up-records zero h = refl
  up-records (suc k) h =
      let e : leaves s.n + k - leaves s.n ≡ k = omega arith in
      ap₂ plus (up-records k (omega arith)) (leaf-nugget s epoch v (leaves s.n + k) (omega arith) ∙ ap (λ (m : ℕ). count_of 64 epoch (record_of s v m)) e)

  up_next : (k : ℕ) → s.n ≤ k → leaves_to (suc k) ≡ leaves_to k
  unfolding leaves_to
  up_next k h = rw (leaf-past s epoch v (leaves s.n + k) (omega arith)) (counts_are (omega arith) (omega arith) (omega arith))

  up-past : (j : ℕ) → leaves_to (s.n + j) ≡ leaves_to s.n
  up-past zero = let e : s.n + zero ≡ s.n = omega arith in rw e
  up-past (suc j) =
      let e : s.n + suc j ≡ suc (s.n + j) = omega arith in
      rw e (up_next (s.n + j) (omega arith)) ∙ up-past j

  up-all : Small s → leaves_to (leaves s.n) ≡ counts_in s 64 epoch v s.n
  up-all few =
      let e : s.n + (leaves s.n - s.n) ≡ leaves s.n = omega (arith, few.enough_leaves) in
      rw e at (up-past (leaves s.n - s.n)) ∙ up-records s.n (omega arith)

  module _ (few : Small s) (b : List ℕ) (x : Belongs s epoch v b) where
    -- each entry is read as what it has to tell
    pub own : (i : ℕ) → 1 ≤ i → i < 2 * leaves s.n → entry_in b i ≡ beneath s epoch v b i
    own i a l = entry_read b i (beneath s epoch v b i) (beneath_narrow s epoch v b i) (x.entries i a l)

    -- two sums that don't roll over
    joins : (lo mid hi e f : Counts) (k : ℕ) → k ≤ 16384 → (hi.moved ≤ k) × (hi.flakes ≤ 64 * k) × (hi.done ≤ 64 * k) → plus lo e ≡ mid → plus mid f ≡ hi
        → plus lo (rolled e f) ≡ hi
    unfolding rolled
    joins lo mid hi e f k small top p q =
        counts_are
        (go lo.moved mid.moved hi.moved e.moved f.moved (omega (arith, top.0)) (ap (λ (c : Counts). c.moved) p) (ap (λ (c : Counts). c.moved) q))
        (go lo.flakes mid.flakes hi.flakes e.flakes f.flakes (omega (arith, top.1)) (ap (λ (c : Counts). c.flakes) p) (ap (λ (c : Counts). c.flakes) q))
        (go lo.done mid.done hi.done e.done f.done (omega (arith, top.2)) (ap (λ (c : Counts). c.done) p) (ap (λ (c : Counts). c.done) q))
      where
        go : (l m h y z : ℕ) → h < 2 ^ 32 → l + y ≡ m → m + z ≡ h → l + (y + z) % 2 ^ 32 ≡ h
        go l m h y z low a c = omega arith

    -- the entry of node i is what lies between the first leaf below it and the one behind the last
    pub between : (h i lo hi : ℕ) → HasHeight s h i → lo + leaves s.n ≡ i * 2 ^ h → hi + leaves s.n ≡ (i + 1) * 2 ^ h → plus (leaves_to lo) (entry_in b i) ≡ leaves_to hi
    unfolding leaves_to
    between zero i lo hi t p q =
        let e : hi ≡ suc lo = omega arith in
        let at : i ≡ leaves s.n + lo = omega arith in
        rw e (ap (λ (c : Counts). plus (leaves_to lo) c) (own i (stands_some s 0 i t) (stands_last s 0 i t) ∙ beneath-leaf s epoch v b i (stands_bottom s i t) ∙ ap (at_leaf s epoch v) at))
    between (suc h) i lo hi t p q =
        let mid = lo + 2 ^ h in
        let e = pow-suc 2 h in
        let left = between h (2 * i) lo mid (stands_left s h i t) (omega (arith, rw e at p)) (omega (arith, rw e at p)) in
        let right = between h (2 * i + 1) mid hi (stands_right s h i t) (omega (arith, rw e at p)) (omega (arith, rw e at q)) in
        rw (own i (stands_some s (suc h) i t) (stands_last s (suc h) i t), beneath-two s epoch v b i (stands_inner s h i t))
        (joins (leaves_to lo) (leaves_to mid) (leaves_to hi) (entry_in b (2 * i)) (entry_in b (2 * i + 1)) hi (omega (arith, rw e at q, t.last, rw e at t.last, few.few_leaves)) (up-few hi) left right)

    -- "A report from the top entry"
    pub top-counts : entry_in b 1 ≡ counts_in s 64 epoch v s.n
    unfolding leaves_to
    top-counts = zero-plus (entry_in b 1) ∙ between (height_of s.n) 1 0 (leaves s.n) (stands_top s) (omega arith) (omega arith) ∙ up-all few
      where
        zero-plus : (c : Counts) → c ≡ plus none c
        zero-plus c = counts_are (omega arith) (omega arith) (omega arith)

    -- a nugget's leaf tells what its record counts for
    pub leaf-entry : (n : ℕ) → n < s.n → entry_in b (leaves s.n + n) ≡ count_of 64 epoch (record_of s v n)
    leaf-entry n h =
        let i = leaves s.n + n in
        let e : i - leaves s.n ≡ n = omega arith in
        own i (omega (arith, few.some_leaves)) (omega (arith, few.enough_leaves)) ∙ beneath-leaf s epoch v b i (omega arith) ∙ leaf-nugget s epoch v i (omega arith)
        ∙ ap (λ (m : ℕ). count_of 64 epoch (record_of s v m)) e

    -- where no nugget has moved, no entry tells of one
    pub none-moved : ((n : ℕ) → n < s.n → eqb (record_of s v n).epoch epoch ≡ false) → (i : ℕ) → 1 ≤ i → i < 2 * leaves s.n → ((entry_in b i).moved ≡ 0) × ((entry_in b i).done ≡ 0)
    unfolding count_of rolled
    none-moved still = by_two (height_of s.n) (λ i. ((entry_in b i).moved ≡ 0) × ((entry_in b i).done ≡ 0)) (λ i a l two. rw (own i a l) (go i two (told (ltb i (leaves s.n))) (told (ltb i (leaves s.n + s.n)))))
      where
        still_count : (r : Record) → eqb r.epoch epoch ≡ false → ((count_of 64 epoch r).moved ≡ 0) × ((count_of 64 epoch r).done ≡ 0)
        still_count r e = rw e (refl, refl)

        zeros : (x y : ℕ) → x ≡ 0 → y ≡ 0 → (x + y) % 2 ^ 32 ≡ 0
        zeros x y p q = rw (p, q) refl

        none-rolled : (x y : Counts) → (x.moved ≡ 0) × (x.done ≡ 0) → (y.moved ≡ 0) × (y.done ≡ 0) → ((rolled x y).moved ≡ 0) × ((rolled x y).done ≡ 0)
        none-rolled x y p q = (zeros x.moved y.moved p.0 q.0, zeros x.done y.done p.1 q.1)

        go : (i : ℕ) → (i < leaves s.n → (((entry_in b (2 * i)).moved ≡ 0) × ((entry_in b (2 * i)).done ≡ 0)) × (((entry_in b (2 * i + 1)).moved ≡ 0) × ((entry_in b (2 * i + 1)).done ≡ 0)))
            → (ltb i (leaves s.n) ≡ true) ⊎ (ltb i (leaves s.n) ≡ false) → (ltb i (leaves s.n + s.n) ≡ true) ⊎ (ltb i (leaves s.n + s.n) ≡ false)
            → ((beneath s epoch v b i).moved ≡ 0) × ((beneath s epoch v b i).done ≡ 0)
        go i two (inl e) f =
            let h = ltb-true _ _ e in
            rw (beneath-two s epoch v b i h) (none-rolled (entry_in b (2 * i)) (entry_in b (2 * i + 1)) (two h).0 (two h).1)
        go i two (inr e) (inl f) =
            rw (beneath-leaf s epoch v b i (ltb-false _ _ e), leaf-nugget s epoch v i (ltb-true _ _ f))
            (still_count (record_of s v (i - leaves s.n)) (still (i - leaves s.n) (omega (arith, ltb-false i (leaves s.n) e, ltb-true i (leaves s.n + s.n) f))))
        go i two (inr e) (inr f) = rw (beneath-leaf s epoch v b i (ltb-false _ _ e), leaf-past s epoch v i (ltb-false _ _ f)) (refl, refl)
