-- The whole is accepted exactly if every record is well formed and every node good.
use mathlib.Core.Path.{◌≡◌, refl, sym, ap, ◌∙◌}
use mathlib.Core.Bool.{true, false}
use mathlib.Core.Logic.{◌⊎◌, inl, inr}
use mathlib.Core.List.{List}
use Prim.Native.Nat.{ℕ, zero, suc, ◌+◌, ◌-◌, ◌<◌, ◌≤◌}
use native.Mathlib.Omega.{arith}
use lib.Dec.{eqb, leb}
use borrow.Author.Tests.{eqb-true, eqb-false, leb-true, ltb-true}
use Rattle.base.specs.Pick.{pick}
use Rattle.base.proofs.PickLaws.{yes, no, told, both_left, both_right, both-on, clash}
use Rattle.layout.specs.Shape.{height_of, leaves}
use Rattle.layout.specs.declared.Shape.{Shape}
use Rattle.answers.specs.Answer.{Answer}
use Rattle.answers.specs.Answer as A
use Rattle.answers.specs.declared.Place.TheVariants as P
use Rattle.answers.specs.Numbers.{accepts}
use Rattle.records.specs.declared.Gauge.{Gauge}
use Rattle.nodes.specs.Made.{good_node}
use Rattle.nodes.proofs.MadeLaws.{good_true, true_good}
use Rattle.tree.specs.Path.{formed, good_record, path_of}
use Rattle.tree.specs.Whole.{records_from, nugget_leaf, worst, at_node, whole_of}
use Rattle.tree.specs.Good.{AllGood}
use Rattle.tree.proofs.PathLaws.{accepted-pick, good-path}
use Rattle.tree.proofs.WorstLaws.{Bad, under_root, root_some, worst-most, worst-bad}
use Rattle.layout.specs.Shaped.{Shaped}
use Rattle.layout.proofs.Limits.{Small, lent_small}

-- the node's answer is acceptance for no node
at-accepted : (w : ℕ) → at_node w ≡ A.Accepted → w ≡ 0
unfolding at_node
at-accepted w e = go (told (eqb w 0))
  where
    go : (eqb w 0 ≡ true) ⊎ (eqb w 0 ≡ false) → w ≡ 0
    go (inl q) = eqb-true w 0 q
    go (inr q) = absurd (clash (accepted-pick false A.Accepted (P.Node w) (sym (no _ q refl) ∙ e)).0 refl)

-- the first place is acceptance only if both stages are
stages : (a b : Answer) → pick (accepts a) b a ≡ A.Accepted → (accepts a ≡ true) × (b ≡ A.Accepted)
stages a b e = go (told (accepts a))
  where
    go : (accepts a ≡ true) ⊎ (accepts a ≡ false) → (accepts a ≡ true) × (b ≡ A.Accepted)
    go (inl q) = (q, sym (yes a q refl) ∙ e)
    go (inr q) = absurd (clash (ap accepts (sym (no b q refl) ∙ e)) q)

module _ (s : Shape) (gauge : Gauge) (v : List ℕ) where
  records-all : (k m : ℕ) → accepts (records_from s gauge v k m) ≡ true → (n : ℕ) → m ≤ n → n < m + k → good_record s gauge v n ≡ true
  unfolding records_from
  records-all zero m e n a b = absurd (omega arith)
  records-all (suc k) m e n a b = go (told (good_record s gauge v m)) (told (eqb m n)) (λ q r. records-all k (suc m) q n r (omega arith))
    where
      go : (good_record s gauge v m ≡ true) ⊎ (good_record s gauge v m ≡ false) → (eqb m n ≡ true) ⊎ (eqb m n ≡ false)
          → (accepts (records_from s gauge v k (suc m)) ≡ true → suc m ≤ n → good_record s gauge v n ≡ true)
          → good_record s gauge v n ≡ true
      go (inl g) (inl q) again = rw (eqb-true m n q) at g
      go (inl g) (inr q) again = again (rw g at e) (omega (arith, eqb-false m n q))
      go (inr g) x again = absurd (clash (rw g at e) refl)

  records-good : (k m : ℕ) → ((n : ℕ) → m ≤ n → n < m + k → good_record s gauge v n ≡ true) → records_from s gauge v k m ≡ A.Accepted
  unfolding records_from
  records-good zero m g = refl
  records-good (suc k) m g = yes _ (g m (omega arith) (omega arith)) (records-good k (suc m) (λ n a b. g n (omega arith) (omega arith)))

  whole_stages : whole_of s gauge v ≡ A.Accepted → (accepts (records_from s gauge v s.n 0) ≡ true) × (worst s v (height_of s.n) 1 ≡ 0)
  unfolding whole_of
  whole_stages e =
      let q = stages (records_from s gauge v s.n 0) (at_node (worst s v (height_of s.n) 1)) e in
      (q.0, at-accepted (worst s v (height_of s.n) 1) q.1)

  -- accepted: every record is well formed
  pub whole-formed : whole_of s gauge v ≡ A.Accepted → (n : ℕ) → n < s.n → formed s gauge v n ≡ true
  unfolding good_record
  whole-formed e n h = both_left _ _ (records-all s.n 0 (whole_stages e).0 n (omega arith) (omega arith))

  -- and every node is good
  pub whole-good : whole_of s gauge v ≡ A.Accepted → AllGood s v
  unfolding good_record nugget_leaf
  whole-good e i a b = good_true s v i (go (told (nugget_leaf s i)) (told (good_node s v i)))
    where
      leaf : (n : ℕ) → n < s.n → good_node s v (leaves s.n + n) ≡ true
      leaf n h =
          both_right (formed s gauge v n) (good_node s v (leaves s.n + n)) (records-all s.n 0 (whole_stages e).0 n (omega arith) (omega arith))

      go : (nugget_leaf s i ≡ true) ⊎ (nugget_leaf s i ≡ false) → (good_node s v i ≡ true) ⊎ (good_node s v i ≡ false) → good_node s v i ≡ true
      go x (inl g) = g
      go (inl x) (inr g) =
          let p : leaves s.n ≤ i = leb-true _ _ (both_left (leb (leaves s.n) i) _ x) in
          let q : i < leaves s.n + s.n = ltb-true _ _ (both_right (leb (leaves s.n) i) _ x) in
          let r : leaves s.n + (i - leaves s.n) ≡ i = omega arith in
          rw r at (leaf (i - leaves s.n) (omega arith))
      go (inr x) (inr g) =
          absurd (omega (arith, (whole_stages e).1, worst-most s v (height_of s.n) 1 i (record { within = under_root (height_of s.n) i a b; other = x; bad = g })))

  -- and these two give acceptance
  pub good-whole : Shaped s v → AllGood s v → ((n : ℕ) → n < s.n → formed s gauge v n ≡ true) → whole_of s gauge v ≡ A.Accepted
  unfolding whole_of good_record at_node
  good-whole l g f =
      yes _ (ap accepts records) (ap at_node (none (worst-bad s v (height_of s.n) 1)))
    where
      small : Small s
      small = lent_small l

      record_good : (n : ℕ) → n < s.n → good_record s gauge v n ≡ true
      record_good n h = both-on (f n h) (true_good s v (leaves s.n + n) (g (leaves s.n + n) (omega (arith, small.some_leaves)) (omega (arith, small.enough_leaves))))

      records : records_from s gauge v s.n 0 ≡ A.Accepted
      records = records-good s.n 0 (λ n a b. record_good n (omega arith))

      none : (worst s v (height_of s.n) 1 ≡ 0) ⊎ Bad s v (height_of s.n) 1 (worst s v (height_of s.n) 1) → worst s v (height_of s.n) 1 ≡ 0
      none (inl e) = e
      none (inr x) =
          let r = root_some (height_of s.n) (worst s v (height_of s.n) 1) x.within in
          absurd (clash (true_good s v _ (g _ r.0 r.1)) x.bad)

  -- if the whole passes, every path passes
  pub whole_paths : Shaped s v → whole_of s gauge v ≡ A.Accepted → (n : ℕ) → n < s.n → path_of s gauge v n ≡ A.Accepted
  whole_paths l e n h = good-path s gauge v n l h (whole-good e) (whole-formed e n h)
