-- One turn of each loop and of the recursion, by what is left to do.
use mathlib.Core.Path.{◌≡◌, refl, sym, ap, ◌∙◌}
use mathlib.Core.Bool.{Bool, true, false}
use mathlib.Core.List.{List}
use Prim.Native.Nat.{ℕ, zero, suc, ◌+◌, ◌-◌, ◌*◌, ◌/◌, ◌<◌, ◌≤◌, max}
use native.Mathlib.Numerals.{add-one}
use native.Mathlib.Omega.{arith}
use lib.ListN.{length}
use borrow.Author.Tests.{le-leb, lt-leb, lt-ltb, le-ltb}
use Rattle.base.proofs.PickLaws.{yes, no, both-on, both_off}
use Rattle.layout.specs.Shape.{height_of, leaves}
use Rattle.layout.specs.declared.Shape.{Shape}
use Rattle.answers.specs.Answer.{Answer}
use Rattle.answers.specs.Answer as A
use Rattle.answers.specs.declared.Place.TheVariants as P
use Rattle.answers.specs.Numbers.{accepts}
use Rattle.records.specs.Record.{record_of, well_formed}
use Rattle.records.specs.declared.Record.{Record}
use Rattle.records.specs.declared.Gauge.{Gauge}
use Rattle.nodes.specs.Made.{good_node}
use Rattle.tree.specs.Path.{good_record, climbed, path_of, Rises}
use Rattle.tree.specs.Whole.{records_from, nugget_leaf, bad_of, worst, at_node, whole_of}
use Rattle.tree.specs.Renewed.{stored_up, renewed}
use Rattle.tree.proofs.Heights.{rises-leaf}
use Rattle.layout.specs.Shaped.{Shaped}
use Rattle.layout.proofs.Limits.{lent_small}

module _ (s : Shape) (v : List ℕ) where
  pub climbed-on : (k i : ℕ) → 0 < k → good_node s v i ≡ true → climbed s v (k - 1) (i / 2) ≡ climbed s v k i
  unfolding climbed
  climbed-on zero i h e = absurd (omega arith)
  climbed-on (suc k) i h e = let q : suc k - 1 ≡ k = omega arith in sym (yes _ e (ap (λ (x : ℕ). climbed s v x (i / 2)) (sym q)))

  pub climbed_off : (k i : ℕ) → 0 < k → good_node s v i ≡ false → A.Altered (P.Node i) ≡ climbed s v k i
  unfolding climbed
  climbed_off zero i h e = absurd (omega arith)
  climbed_off (suc k) i h e = sym (no _ e refl)

  pub climbed_end : (k i : ℕ) → k ≤ 0 → A.Accepted ≡ climbed s v k i
  unfolding climbed
  climbed_end zero i h = refl
  climbed_end (suc k) i h = absurd (omega arith)

  pub worst-on : (h i : ℕ) → 0 < h → max (bad_of s v i) (max (worst s v (h - 1) (2 * i)) (worst s v (h - 1) (2 * i + 1))) ≡ worst s v h i
  unfolding worst
  worst-on zero i l = absurd (omega arith)
  worst-on (suc h) i l = let q : suc h - 1 ≡ h = omega arith in rw q

  pub worst_is : (h i : ℕ) {b l r m t : ℕ} → 0 < h → b ≡ bad_of s v i → l ≡ worst s v (h - 1) (2 * i) → r ≡ worst s v (h - 1) (2 * i + 1) → m ≡ max l r
      → t ≡ max b m → t ≡ worst s v h i
  worst_is h i p eb el er em et = rw (et, em, er, el, eb) (worst-on h i p)

  pub worst_end : (h i : ℕ) → h ≡ 0 → bad_of s v i ≡ worst s v h i
  unfolding worst
  worst_end h i e = rw e

-- is node i the leaf of a nugget
module _ (s : Shape) (i : ℕ) where
  pub nugget_yes : leaves s.n ≤ i → i < leaves s.n + s.n → nugget_leaf s i ≡ true
  unfolding nugget_leaf
  nugget_yes a b = both-on (le-leb _ _ a) (lt-ltb _ _ b)

  pub nugget-below : i < leaves s.n → nugget_leaf s i ≡ false
  unfolding nugget_leaf
  nugget-below a = both_off _ (lt-leb _ _ a)

  pub nugget-above : leaves s.n + s.n ≤ i → nugget_leaf s i ≡ false
  unfolding nugget_leaf
  nugget-above a = both-on (le-leb (leaves s.n) i (omega arith)) (le-ltb _ _ a)

module _ (s : Shape) (v : List ℕ) (i : ℕ) where
  pub bad-nugget : nugget_leaf s i ≡ true → 0 ≡ bad_of s v i
  unfolding bad_of
  bad-nugget a = sym (yes _ a refl)

  pub bad-good : nugget_leaf s i ≡ false → good_node s v i ≡ true → 0 ≡ bad_of s v i
  unfolding bad_of
  bad-good a e = sym (no _ a (yes _ e refl))

  pub bad-bad : nugget_leaf s i ≡ false → good_node s v i ≡ false → i ≡ bad_of s v i
  unfolding bad_of
  bad-bad a e = sym (no _ a (no _ e refl))

module _ (s : Shape) (gauge : Gauge) (v : List ℕ) where
  pub record_on : (n : ℕ) {l : ℕ} {r : Record} {ok : Bool} → r ≡ record_of s v n → well_formed s.p gauge r ≡ true → l ≡ leaves s.n
      → ok ≡ good_node s v (l + n) → ok ≡ good_record s gauge v n
  unfolding good_record
  record_on n er ew el eo = rw (eo, el) (sym (both-on (rw er at ew) refl))

  pub record_off : (n : ℕ) {r : Record} → r ≡ record_of s v n → well_formed s.p gauge r ≡ false
      → false ≡ good_record s gauge v n
  unfolding good_record
  record_off n er ew = sym (both_off _ (rw er at ew))

  records_from-suc : (k m n : ℕ) → k ≡ suc m → good_record s gauge v n ≡ true → records_from s gauge v m (n + 1) ≡ records_from s gauge v k n
  unfolding records_from
  records_from-suc k m n q e = rw (q, add-one n) (sym (yes _ e refl))

  pub records_from-on : (n : ℕ) → n < s.n → good_record s gauge v n ≡ true
      → records_from s gauge v (s.n - (n + 1)) (n + 1) ≡ records_from s gauge v (s.n - n) n
  records_from-on n h e = records_from-suc (s.n - n) (s.n - (n + 1)) n (omega arith) e

  records_from_no : (k m n : ℕ) → k ≡ suc m → good_record s gauge v n ≡ false → A.Altered (P.Record n) ≡ records_from s gauge v k n
  unfolding records_from
  records_from_no k m n q e = rw q (sym (no _ e refl))

  pub records_from_off : (n : ℕ) → n < s.n → good_record s gauge v n ≡ false → A.Altered (P.Record n) ≡ records_from s gauge v (s.n - n) n
  records_from_off n h e = records_from_no (s.n - n) (s.n - (n + 1)) n (omega arith) e

  pub records_from_end : (n : ℕ) → s.n ≤ n → A.Accepted ≡ records_from s gauge v (s.n - n) n
  unfolding records_from
  records_from_end n h = let q : s.n - n ≡ 0 = omega arith in rw q

  pub path-on : (n : ℕ) {h l : ℕ} {r : Answer} → good_record s gauge v n ≡ true → h ≡ height_of s.n → l ≡ leaves s.n → r ≡ climbed s v h ((l + n) / 2)
      → r ≡ path_of s gauge v n
  unfolding path_of
  path-on n e eh el er = rw (er, eh, el) (sym (yes _ e refl))

  pub path_off : (n : ℕ) → good_record s gauge v n ≡ false → A.Altered (P.Record n) ≡ path_of s gauge v n
  unfolding path_of
  path_off n e = sym (no _ e refl)

  pub whole-on : {a r : Answer} {h w : ℕ} → a ≡ records_from s gauge v s.n 0 → accepts a ≡ true → h ≡ height_of s.n → w ≡ worst s v h 1 → r ≡ at_node w
      → r ≡ whole_of s gauge v
  unfolding whole_of
  whole-on ea e eh ew er = rw (er, ew, eh) (sym (yes _ (rw ea at e) refl))

  pub whole_off : {a : Answer} → a ≡ records_from s gauge v s.n 0 → accepts a ≡ false → a ≡ whole_of s gauge v
  unfolding whole_of
  whole_off ea e = ea ∙ sym (no _ (rw ea at e) refl)

-- where the renewal begins
pub renew-starts : {s : Shape} {v : List ℕ} (n : ℕ) {k i : ℕ} → Shaped s v → n < s.n → k ≡ suc (height_of s.n) → i ≡ leaves s.n + n
    → Rises k i × (i < 2 * leaves s.n) × Shaped s v × (length v ≡ length v) × (stored_up s k i v ≡ renewed s n v)
unfolding renewed
renew-starts {s} n l h ek ei =
    let q = lent_small l in
    rw (ek, ei) (rises-leaf s n q h, omega (arith, q.enough_leaves), l, refl, refl)
