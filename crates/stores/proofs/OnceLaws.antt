-- Stores of a change counted by the byte: flakes and tags, records, nodes and the head lie in places of their own.
use mathlib.Core.Path.{◌≡◌, refl, ap, ◌∙◌}
use mathlib.Core.Bool.{Bool, true, false}
use mathlib.Core.Logic.{◌⊎◌, inl, inr, ⊎_elim}
use mathlib.Core.List.{List, [], ◌∷◌, ◌++◌}
use Prim.Native.Nat.{ℕ, zero, suc, ◌+◌, ◌*◌, ◌/◌, ◌<◌, ◌≤◌}
use native.Mathlib.Nat.{suc-mul}
use native.Mathlib.Omega.{arith}
use lib.Dec.{leb, ltb}
use lib.ListN.{length}
use borrow.Author.Tests.{leb-true, leb-false, ltb-true, ltb-false}
use Rattle.base.specs.Pick.{pick}
use Rattle.base.proofs.PickLaws.{yes, no, told, both-on, both_off}
use Rattle.layout.specs.declared.Shape.{Shape}
use Rattle.layout.specs.Shape.{height_of, leaves, width_of}
use Rattle.layout.specs.Shaped.{Shaped}
use Rattle.layout.specs.Parts.{record_at, tags_at, tag_at, tree_at, node_at, flakes_at, flake_at}
use Rattle.layout.proofs.Limits.{lent_small}
use Rattle.records.specs.declared.Record.{Record}
use Rattle.records.specs.declared.Way.{Way}
use Rattle.records.specs.Journal.{bit}
use Rattle.records.specs.Record.{record_bytes, record_of}
use Rattle.records.specs.Rule.{turned, enciphered, keycount_after}
use Rattle.records.specs.Listing.{Entry, entry, pads_of, pads_by, pads_to}
use Rattle.records.proofs.RecordLaws.{length_record}
use Rattle.keys.specs.Pads.{under}
use Rattle.keys.proofs.PadLaws.{length-under}
use Rattle.keys.proofs.TagLaws.{length-tag}
use Rattle.nodes.specs.Made.{made_of, store_node}
use Rattle.nodes.proofs.MadeLaws.{length-made}
use Rattle.tree.specs.Path.{Rises}
use Rattle.tree.proofs.Heights.{rises-some, rises-half, rises-leaf}
use Rattle.nuggets.specs.Nugget.{lock_of}
use Rattle.changes.specs.Change.{idles, tended_to}
use Rattle.changes.proofs.CellLaws.{ordered}
use Rattle.changes.proofs.LaidLaws.{Long}
use Rattle.stores.specs.Store.{Store, store}
use Rattle.stores.specs.Work.{flake_stores, entry_stores, laid_stores, record_stores, mark_stores, up_stores, path_stores, tend_stores}
use Rattle.stores.specs.Once.{hits, stored_times}

-- a place in a range, or outside it
hits-told : (low high a : ℕ) → ((hits low high a ≡ 1) × (low ≤ a) × (a < high)) ⊎ ((hits low high a ≡ 0) × ((a < low) ⊎ (high ≤ a)))
unfolding hits
hits-told low high a =
    ⊎_elim
    (λ e. ⊎_elim (λ f. inl (yes _ (both-on e f) refl, leb-true low a e, ltb-true a high f)) (λ f. inr (no _ (both-on e f) refl, inr (ltb-false a high f))) (told (ltb a high)))
    (λ e. inr (no _ (both_off _ e) refl, inl (leb-false low a e)))
    (told (leb low a))

pub hits-le : (low high a : ℕ) → hits low high a ≤ 1
hits-le low high a = ⊎_elim (λ x. omega (arith, x.0)) (λ x. omega (arith, x.0)) (hits-told low high a)

-- outside the range
pub hits-none : (low high a : ℕ) → (a < low) ⊎ (high ≤ a) → hits low high a ≡ 0
hits-none low high a h =
    ⊎_elim (λ x. absurd (⊎_elim (λ p. omega (arith, p, x.1)) (λ q. omega (arith, q, x.2)) h)) (λ x. x.0) (hits-told low high a)

-- a wider range
pub hits-wide : (low high from to a : ℕ) → from ≤ low → high ≤ to → hits low high a ≤ hits from to a
hits-wide low high from to a p q =
    ⊎_elim
    (λ x. ⊎_elim (λ y. omega (arith, x.0, y.0)) (λ y. absurd (⊎_elim (λ b. omega (arith, b, x.1, p)) (λ b. omega (arith, b, x.2, q)) y.1)) (hits-told from to a))
    (λ x. omega (arith, x.0))
    (hits-told low high a)

-- one range behind another
pub hits_join : (low high from to a : ℕ) → low ≤ high → high ≤ from → from ≤ to → hits low high a + hits from to a ≤ hits low to a
hits_join low high from to a p q r =
    ⊎_elim
    (λ x.
    let all = hits-wide low high low to a (omega arith) (omega (arith, q, r)) in
    omega (arith, x.0, all, hits-none from to a (inl (omega (arith, x.2, q)))))
    (λ x. omega (arith, x.0, hits-wide from to low to a (omega (arith, p, q)) (omega arith)))
    (hits-told low high a)

-- lists one after the other, and a list that is there only if a test fails
pub times-append : (xs ys : List Store) (a : ℕ) → stored_times (xs ++ ys) a ≡ stored_times xs a + stored_times ys a
unfolding stored_times
times-append [] ys a = omega arith
times-append (x ∷ xs) ys a = rw (times-append xs ys a) (omega arith)

pub times_none : (a : ℕ) → stored_times [] a ≡ 0
unfolding stored_times
times_none a = refl

pub times-one : (at n a : ℕ) (l : List ℕ) → length l ≡ n → stored_times (store at l ∷ []) a ≡ hits at (at + n) a
unfolding stored_times
times-one at n a l e = rw e (omega arith)

times_unless : (b : Bool) (xs : List Store) (a m : ℕ) → stored_times xs a ≤ m → stored_times (pick b [] xs) a ≤ m
times_unless true xs a m h = omega (arith, times_none a)
times_unless false xs a m h = h

module _ (s : Shape) (salt : List ℕ) (new : ℕ → ℕ → List ℕ) (long : Long s new) (a : ℕ) where
  -- one flake and its tag
  times-entry : (n k f : ℕ) (x : List ℕ) → n < s.n → f < s.p → stored_times (entry_stores s salt new (entry n k f x)) a ≡ hits (flake_at s n f) (flake_at s n f + s.f) a + hits (tag_at s n f) (tag_at s n f + 16) a
  unfolding entry_stores flake_stores stored_times
  times-entry n k f x h l =
      let lock = lock_of s salt (entry n k f x) in
      let stored = under lock f s.f (new n f) in
      rw (length-under lock f s.f (new n f), long n f h l, length-tag lock f stored) (omega arith)

  times-laid : (xs ys : List Entry) → stored_times (laid_stores s salt new (xs ++ ys)) a ≡ stored_times (laid_stores s salt new xs) a + stored_times (laid_stores s salt new ys) a
  unfolding laid_stores stored_times
  times-laid [] ys = omega arith
  times-laid (x ∷ xs) ys =
      times-append (entry_stores s salt new x) (laid_stores s salt new (xs ++ ys)) a
      ∙ rw (times-laid xs ys, times-append (entry_stores s salt new x) (laid_stores s salt new xs) a) (omega arith)

  -- the flakes below p of one nugget
  abbrev Below : ℕ → ℕ → ℕ
  Below n p = hits (flake_at s n 0) (flake_at s n p) a + hits (tag_at s n 0) (tag_at s n p) a

  flake-next : (n p : ℕ) → flake_at s n p + s.f ≡ flake_at s n (suc p)
  flake-next n p =
      let e : n * s.p + suc p ≡ suc (n * s.p + p) = omega arith in
      rw (e, suc-mul (n * s.p + p) s.f) (omega arith)

  flake-first : (n p : ℕ) → flake_at s n 0 ≤ flake_at s n p
  flake-first n zero = omega arith
  flake-first n (suc p) = omega (arith, flake-first n p, flake-next n p)

  times-pads : (n k : ℕ) (x : List ℕ) (g : ℕ → Bool) (p : ℕ) → n < s.n → p ≤ s.p → stored_times (laid_stores s salt new (pads_of n k x g p)) a ≤ Below n p
  unfolding pads_of laid_stores stored_times
  times-pads n k x g zero h l = omega arith
  times-pads n k x g (suc p) h l =
      let flake = hits_join (flake_at s n 0) (flake_at s n p) (flake_at s n p) (flake_at s n (suc p)) a (flake-first n p) (omega arith) (omega (arith, flake-next n p)) in
      let tag = hits_join (tag_at s n 0) (tag_at s n p) (tag_at s n p) (tag_at s n (suc p)) a (omega arith) (omega arith) (omega arith) in
      let first = times-pads n k x g p h (omega (arith, l)) in
      rw (times-laid (pads_of n k x g p) (pick (g p) (entry n k p x ∷ []) []))
      (omega (arith, flake, tag, first, last (told (g p))))
    where
      last : (g p ≡ true) ⊎ (g p ≡ false)
          → stored_times (laid_stores s salt new (pick (g p) (entry n k p x ∷ []) [])) a ≤ hits (flake_at s n p) (flake_at s n (suc p)) a + hits (tag_at s n p) (tag_at s n (suc p)) a
      last (inl e) =
          let t : tag_at s n p + 16 ≡ tag_at s n (suc p) = omega arith in
          rw (e, times-append (entry_stores s salt new (entry n k p x)) [] a, times-entry n k p x h l, flake-next n p, t) (omega (arith, times_none a))
      last (inr e) = rw e (omega arith)

  -- those of the nuggets below m
  abbrev Upto : ℕ → ℕ
  Upto m = hits (flakes_at s) (flake_at s m 0) a + hits (tags_at s) (tag_at s m 0) a

  index_next : (m : ℕ) → m * s.p + s.p ≡ suc m * s.p + 0
  index_next m = rw (suc-mul m s.p) (omega arith)

  flake-over : (m : ℕ) → flake_at s m s.p ≡ flake_at s (suc m) 0
  flake-over m = ap (λ (i : ℕ). flakes_at s + i * s.f) (index_next m)

  flake-low : (m : ℕ) → flakes_at s ≤ flake_at s m 0
  flake-low m = omega arith

  pub times_to : (way : ℕ → Way) (records : ℕ → Record) (x : List ℕ) (m : ℕ) → m ≤ s.n → stored_times (laid_stores s salt new (pads_to s.p way records x m)) a ≤ Upto m
  unfolding pads_to pads_by laid_stores stored_times
  times_to way records x zero h = omega arith
  times_to way records x (suc m) h =
      let k = keycount_after (way m) (records m) in
      let g = bit (enciphered (way m) (records m)) in
      let before = times_to way records x m (omega (arith, h)) in
      let own = times-pads m k x g s.p (omega (arith, h)) (omega arith) in
      let over : tag_at s m s.p ≡ tag_at s (suc m) 0 = ap (λ (i : ℕ). tags_at s + 16 * i) (index_next m) in
      let flake = hits_join (flakes_at s) (flake_at s m 0) (flake_at s m 0) (flake_at s m s.p) a (flake-low m) (omega arith) (flake-first m s.p) in
      let tag = hits_join (tags_at s) (tag_at s m 0) (tag_at s m 0) (tag_at s m s.p) a (omega arith) (omega arith) (omega arith) in
      rw (times-laid (pads_to s.p way records x m) (pads_of m k x g s.p), ← flake-over m, ← over) (omega (arith, before, own, flake, tag))

-- records
module _ (s : Shape) (head : ℕ) (way : ℕ → Way) (v : List ℕ) (a : ℕ) where
  record_next : (n : ℕ) → record_at s n + width_of s ≡ record_at s (suc n)
  record_next n = rw (suc-mul n (width_of s)) (omega arith)

  times_record : (n : ℕ) → stored_times (record_stores s head (way n) (record_of s v n) n) a ≤ hits (record_at s n) (record_at s (suc n)) a
  unfolding record_stores
  times_record n =
      let bytes = record_bytes s (turned (way n) head (record_of s v n)) in
      times_unless (idles (way n)) (store (record_at s n) bytes ∷ []) a (hits (record_at s n) (record_at s (suc n)) a)
      (rw (times-one (record_at s n) (width_of s) a bytes (length_record s _), record_next n) (omega arith))

  pub times_marks : (n : ℕ) → stored_times (mark_stores s head way v n) a ≤ hits 104 (record_at s n) a
  unfolding mark_stores
  times_marks zero = omega (arith, times_none a)
  times_marks (suc n) =
      let join = hits_join 104 (record_at s n) (record_at s n) (record_at s (suc n)) a (omega arith) (omega arith) (omega (arith, record_next n)) in
      rw (times-append (mark_stores s head way v n) (record_stores s head (way n) (record_of s v n) n) a) (omega (arith, times_marks n, times_record n, join))

-- nodes
module _ (s : Shape) (a : ℕ) where
  pub times-up : (k i : ℕ) (w : List ℕ) → Rises k i → stored_times (up_stores s k i w) a ≤ hits (tree_at s) (node_at s i + 32) a
  unfolding up_stores
  times-up zero i w r = omega (arith, times_none a)
  times-up (suc k) i w r =
      let some = rises-some (suc k) i r (omega arith) in
      let up = times-up k (i / 2) (store_node s i w) (rises-half k i r) in
      let wide = hits-wide (tree_at s) (node_at s (i / 2) + 32) (tree_at s) (node_at s i) a (omega arith) (omega (arith, some)) in
      let join = hits_join (tree_at s) (node_at s i) (node_at s i) (node_at s i + 32) a (omega (arith, some)) (omega arith) (omega arith) in
      rw (times-append (store (node_at s i) (made_of s w i) ∷ []) (up_stores s k (i / 2) (store_node s i w)) a, times-one (node_at s i) 32 a (made_of s w i) (length-made s w i))
      (omega (arith, up, wide, join))

  module _ (v : List ℕ) (lent : Shaped s v) where
    times-path : (way : Way) (n : ℕ) (w : List ℕ) → n < s.n → stored_times (path_stores s way n w) a ≤ hits (tree_at s) (flakes_at s) a
    unfolding path_stores
    times-path way n w h =
        let small = lent_small lent in
        let up = times-up (suc (height_of s.n)) (leaves s.n + n) w (rises-leaf s n small h) in
        let wide = hits-wide (tree_at s) (node_at s (leaves s.n + n) + 32) (tree_at s) (flakes_at s) a (omega arith) (omega (arith, h, small.enough_leaves, small.some_leaves)) in
        times_unless (idles way) (up_stores s (suc (height_of s.n)) (leaves s.n + n) w) a (hits (tree_at s) (flakes_at s) a) (omega (arith, up, wide))

    -- an idle nugget has no path to renew
    times-idle : (way : Way) (n : ℕ) (w : List ℕ) → idles way ≡ true → stored_times (path_stores s way n w) a ≡ 0
    unfolding path_stores
    times-idle way n w e = ap (λ (xs : List Store). stored_times xs a) (yes _ e refl) ∙ times_none a

    -- outside the tree no node is stored
    pub times-outside : (way : ℕ → Way) (n : ℕ) (w : List ℕ) → n ≤ s.n → (a < tree_at s) ⊎ (flakes_at s ≤ a) → stored_times (tend_stores s way n w) a ≡ 0
    unfolding tend_stores
    times-outside way zero w h out = times_none a
    times-outside way (suc n) w h out =
        let path = times-path (way n) n (tended_to s way n w) (omega (arith, h)) in
        times-append (tend_stores s way n w) (path_stores s (way n) n (tended_to s way n w)) a
        ∙ rw (times-outside way n w (omega (arith, h)) out) (omega (arith, path, hits-none (tree_at s) (flakes_at s) a out))

    -- one nugget alone is changed
    pub times_alone : (way : ℕ → Way) (one n : ℕ) (w : List ℕ) → n ≤ s.n → ((m : ℕ) → (m ≡ one → ⊥) → idles (way m) ≡ true)
        → (stored_times (tend_stores s way n w) a ≤ hits (tree_at s) (flakes_at s) a) × (n ≤ one → stored_times (tend_stores s way n w) a ≡ 0)
    unfolding tend_stores
    times_alone way one zero w h idle = (omega (arith, times_none a), λ l. times_none a)
    times_alone way one (suc n) w h idle =
        let before = times_alone way one n w (omega (arith, h)) idle in
        let last = path_stores s (way n) n (tended_to s way n w) in
        let path = times-path (way n) n (tended_to s way n w) (omega (arith, h)) in
        let none : (n ≡ one → ⊥) → stored_times last a ≡ 0 = λ q. times-idle (way n) n (tended_to s way n w) (idle n q) in (
          rw (times-append (tend_stores s way n w) last a)
              (⊎_elim (λ past. omega (arith, before.0, none (λ q. omega (arith, q, past)))) (λ low. omega (arith, before.1 low, path)) (ordered one n)),
          λ l. times-append (tend_stores s way n w) last a ∙ rw (before.1 (omega (arith, l)), none (λ q. omega (arith, q, l))) refl,
        )
