-- From the tests to the bytes: an accepted path, an accepted test of flakes, an accepted whole and an accepted opening.
use mathlib.Core.Path.{◌≡◌, refl, sym, ap, ◌∙◌}
use mathlib.Core.Bool.{Bool, true, false}
use mathlib.Core.Logic.{◌⊎◌, inl, inr}
use mathlib.Core.List.{List}
use Prim.Native.Nat.{ℕ, zero, suc, ◌+◌, ◌/◌, ◌^◌, ◌<◌, ◌≤◌}
use native.Mathlib.Nat.{pow-succ', div-div-eq-div-mul}
use native.Mathlib.Omega.{arith}
use lib.Dec.{eqb, lit<}
use lib.ListN.{length}
use borrow.Author.Tests.{eqb-true, eqb-false, eq-eqb}
use Rattle.base.specs.Lists.{part, same}
use Rattle.base.specs.Pick.{pick}
use Rattle.base.proofs.PickLaws.{yes, no, told, either_left, either_right, both_left, both_right}
use Rattle.base.proofs.FoldLaws.{same_true}
use Rattle.layout.specs.declared.Shape.{Shape}
use Rattle.layout.specs.Shape.{is_one, height_of, leaves}
use Rattle.layout.specs.Parts.{node_at}
use Rattle.layout.specs.Shaped.{Shaped}
use Rattle.layout.proofs.Limits.{lent_small}
use Rattle.answers.specs.Answer as A
use Rattle.answers.specs.declared.Place.TheVariants as P
use Rattle.answers.proofs.StageLaws.{granted}
use Rattle.records.specs.declared.Record.{Record}
use Rattle.records.specs.Journal.{bit}
use Rattle.records.specs.Record.{well_formed, record_of}
use Rattle.records.proofs.BitLaws.{none_above, lies_bits}
use Rattle.records.proofs.RuleLaws.{formed-spent, formed_lies, formed-epoch, formed-keycount}
use Rattle.words.specs.Le.{le}
use Rattle.messages.specs.Messages.{is_first}
use Rattle.poly1305.specs.Poly1305.{poly1305}
use Rattle.keys.specs.declared.Lock.{Lock}
use Rattle.keys.specs.Keys.{tag_key}
use Rattle.keys.specs.Tags.{laid_out, named, covered, tag_of}
use Rattle.keys.proofs.LaidOut.{laid_out-told}
use Rattle.nodes.specs.Nodes.{leaf_of, inner_of, zero_leaf}
use Rattle.nodes.proofs.MadeLaws.{made-leaf, made-inner, made_bottom, bottom_zero}
use Rattle.tree.specs.Good.{upward}
use Rattle.tree.specs.Whole.{whole_of}
use Rattle.tree.proofs.PathLaws.{path_belongs}
use Rattle.tree.proofs.WholeLaws.{whole-formed, whole-good}
use Rattle.drive.specs.declared.Drive.{Drive}
use Rattle.drive.specs.Drive.{shape_of, gauge_of}
use Rattle.drive.specs.Head.{head_of}
use Rattle.drive.specs.Opening.{head_stands, opening_of}
use Rattle.drive.proofs.OpeningLaws.{opening-told}
use Rattle.nuggets.specs.declared.Nugget.{Nugget}
use Rattle.nuggets.specs.Nugget.{lock_for, nugget_of}
use Rattle.nuggets.specs.Tests.{good_flake, passes, flakes_up, flakes_tested, flakes_of, path_for}
use Rattle.detection.specs.Right.{HeadRight, Formed, steps_up, PathGood, tag_for, TagRight, WholeGood}

pub head_right : (d : Drive) (v : List ℕ) → opening_of d v ≡ A.Accepted → HeadRight d v
unfolding head_stands
head_right d v e =
    let t = opening-told d v e in
    record {
      long = t.long;
      head = same_true (part 0 104 v) (head_of d) (both_left _ _ t.stands);
      node = same_true (part (node_at (shape_of d) 1) 32 v) d.node (both_right (same (part 0 104 v) (head_of d)) _ t.stands);
    }

formed_right : (d : Drive) (r : Record) → well_formed d.p (gauge_of d) r ≡ true → Formed d r
formed_right d r e =
    record {
      flakes = λ f h. none_above d.p r.spent f (formed-spent d.p (gauge_of d) r e) h;
      held = λ f. lies_bits r.held r.spent (formed_lies d.p (gauge_of d) r e) f;
      epoch = formed-epoch d.p (gauge_of d) r e;
      keycount = formed-keycount d.p (gauge_of d) r e;
    }

-- two steps up by halves
half_steps : (j k : ℕ) → j / 2 ^ suc k ≡ j / 2 / 2 ^ k
half_steps j k = rw (pow-succ' 2 k) (sym (div-div-eq-div-mul j 2 (2 ^ k)))

-- the node k steps up is among those from a node up
upward_steps : (h j k : ℕ) → k < h → upward h j (j / 2 ^ k) ≡ true
unfolding upward
upward_steps zero j k l = absurd (omega arith)
upward_steps (suc h) j zero l = either_left _ (eq-eqb j (j / 2 ^ 0) (omega arith))
upward_steps (suc h) j (suc k) l = either_right (eqb j (j / 2 ^ suc k)) (rw (half_steps j k) (upward_steps h (j / 2) k (omega arith)))

module _ (d : Drive) (v : List ℕ) where
  pub path-good : (n : ℕ) → Shaped (shape_of d) v → n < d.n → path_for d v n ≡ A.Accepted → PathGood d v n
  unfolding leaf_of inner_of
  path-good n l h e =
      let s = shape_of d in
      let b = path_belongs s (gauge_of d) v n l h e in
      record {
        formed = formed_right d (record_of (shape_of d) v n) b.well_formed_lem;
        leaf = b.leaf;
        above = λ k p q. b.above (steps_up s n k) (on k p q);
      }
    where
      on : (k : ℕ) → 1 ≤ k → k ≤ height_of d.n → upward (height_of d.n) ((leaves d.n + n) / 2) (steps_up (shape_of d) n k) ≡ true
      on zero p q = absurd (omega arith)
      on (suc k) p q = rw (half_steps (leaves d.n + n) k) (upward_steps (height_of d.n) ((leaves d.n + n) / 2) k (omega arith))

  pub whole_right : whole_of (shape_of d) (gauge_of d) v ≡ A.Accepted → Shaped (shape_of d) v → WholeGood d v
  unfolding leaf_of inner_of zero_leaf
  whole_right e l =
      let s = shape_of d in
      let small = lent_small l in
      let good = whole-good s (gauge_of d) v e in
      record {
        formed = λ n h. formed_right d (record_of (shape_of d) v n) (whole-formed s (gauge_of d) v e n h);
        leaf = λ n h. good (leaves d.n + n) (omega (arith, small.some_leaves)) (omega (arith, h, small.enough_leaves)) ∙ made-leaf s v n h;
        spare = λ i a b. good i (omega (arith, a, small.some_leaves)) b ∙ made_bottom s v i (omega (arith, a)) ∙ bottom_zero s v i a;
        inner = λ i a b. good i a (omega (arith, b)) ∙ made-inner s v i b;
      }

-- flakes that were tested one by one
flakes-each : (s : Shape) (v : List ℕ) (g : Nugget) (mask k f : ℕ) → flakes_up s v g mask k f ≡ A.Accepted → (i : ℕ) → f ≤ i → i < f + k → bit mask i ≡ true
    → good_flake s v g i ≡ true
unfolding flakes_up passes
flakes-each s v g mask zero f e i a b on = absurd (omega arith)
flakes-each s v g mask (suc k) f e i a b on =
    let q = granted (passes s v g mask f) (flakes_up s v g mask k (suc f)) (A.Altered (P.Flake g.lock.number f)) refl e in
    go (told (eqb f i)) q.0 (λ h. flakes-each s v g mask k (suc f) q.1 i h (omega arith) on)
  where
    go : (eqb f i ≡ true) ⊎ (eqb f i ≡ false) → passes s v g mask f ≡ true → (suc f ≤ i → good_flake s v g i ≡ true) → good_flake s v g i ≡ true
    go (inl q) here later = rw on at (rw (eqb-true f i q) at here)
    go (inr q) here later = later (omega (arith, eqb-false f i q))

-- what a tag is over, by the shape's version
pub tag-first : (d : Drive) (v : List ℕ) (n f : ℕ) (stored : List ℕ) → is_one (shape_of d) ≡ true → tag_for d v n f stored ≡ poly1305 (tag_key (lock_for d v n) f) stored
unfolding covered
tag-first d v n f stored e = ap (poly1305 (tag_key (lock_for d v n) f)) (yes _ e refl)

pub tag-later : (d : Drive) (v : List ℕ) (n f : ℕ) (stored : List ℕ) → is_one (shape_of d) ≡ false
    → tag_for d v n f stored ≡ poly1305 (tag_key (lock_for d v n) f) (laid_out (named (lock_for d v n) f) stored)
unfolding covered
tag-later d v n f stored e = ap (poly1305 (tag_key (lock_for d v n) f)) (no _ e refl)

-- and what it is over tells the stored flake, in either version
pub covered-told : (lock : Lock) (f : ℕ) (stored other : List ℕ) → length stored < 2 ^ 64 → length other < 2 ^ 64
    → covered lock f stored ≡ covered lock f other → stored ≡ other
unfolding covered le
covered-told lock f stored other h k = go (is_first lock.version)
  where
    go : (first : Bool) → pick first stored (laid_out (named lock f) stored) ≡ pick first other (laid_out (named lock f) other) → stored ≡ other
    go true e = e
    go false e = (laid_out-told (named lock f) (named lock f) stored other (lit< tt) h (lit< tt) k e).1

-- the tag of each flake of the set
pub tag_right : (d : Drive) (v : List ℕ) (n mask f : ℕ) → flakes_of d v n mask ≡ A.Accepted → f < d.p → bit mask f ≡ true → TagRight d v n f
unfolding flakes_tested good_flake tag_of
tag_right d v n mask f e h on = same_true _ _ (flakes-each (shape_of d) v (nugget_of d v n) mask d.p 0 e f (omega arith) (omega (arith, h)) on)
