-- The theorems of specs/Excludes.antt, each under its name.
use mathlib.Core.Path.{◌≡◌, refl, sym, ap, ◌∙◌}
use mathlib.Core.Bool.{true, false}
use mathlib.Core.Logic.{◌⊎◌, inl, inr}
use mathlib.Core.List.{List, []}
use Prim.Native.Nat.{ℕ, ◌+◌, ◌*◌, ◌/◌, ◌<◌}
use native.Mathlib.Omega.{arith}
use lib.Dec.{eqb}
use lib.ListN.{length}
use lib.Seq.{sets}
use borrow.Author.Tests.{eqb-true, eqb-false}
use Rattle.base.specs.Lists.{same}
use Rattle.base.proofs.PickLaws.{yes, no, told, clash, both_left, both_right, both-on, either-told}
use Rattle.base.proofs.FoldLaws.{same_true, same_refl}
use Rattle.blake2s.specs.Hash.{blake2s}
use Rattle.layout.specs.Shape.{height_of, leaves}
use Rattle.layout.specs.Shaped.{Shaped}
use Rattle.layout.specs.declared.Shape.{Shape}
use Rattle.layout.proofs.Limits.{lent_small}
use Rattle.answers.specs.Answer as A
use Rattle.answers.specs.Numbers.{accepts}
use Rattle.answers.proofs.StageLaws.{accepted_is}
use Rattle.records.specs.declared.Gauge.{Gauge}
use Rattle.nodes.specs.Nodes.{node_in, leaf_of, inner_of, record_part, tags_part}
use Rattle.nodes.specs.Alike.{Alike}
use Rattle.tree.specs.Path.{path_of}
use Rattle.heaps.specs.Paths as Paths
use Rattle.tree.specs.Good.{upward, on_path}
use Rattle.tree.proofs.PathLaws.{path_belongs}
use Rattle.heaps.proofs.PathLaws.{upward-le}
use Rattle.drive.specs.declared.Drive.{Drive}
use Rattle.drive.specs.Drive.{shape_of, gauge_of}
use Rattle.twins.specs.Collision.{message_of, Collision}
use Rattle.twins.specs.Twins.{twins_answer, alike_in, meeting, found_in, twin_in, twins_of}
use Rattle.twins.specs.Excludes.{PathExcludes, TwinsCollide, TwinsNothing, TwinsStoreNothing, TwinsRefused}
use Rattle.twins.proofs.MessageLaws.{message-leaf, message-inner, long_of, message-long, long-some, leaf-told, inner-told}
use Rattle.twins.proofs.MeetLaws.{Below, Meets, meeting-within, paths_meet}
use Rattle.twins.proofs.AnswerLaws.{judged}

-- every node of a path that passes is the hash of its message
path_hashes : (s : Shape) (g : Gauge) (v : List ℕ) (n i : ℕ) → Shaped s v → n < s.n → path_of s g v n ≡ A.Accepted → on_path s n i ≡ true
    → node_in s v i ≡ blake2s [] (message_of s v i)
unfolding Paths.on_path upward leaf_of inner_of
path_hashes s g v n i l h e on =
    let b = path_belongs s g v n l h e in
    go b.leaf (b.above i) (either-told (eqb (leaves s.n + n) i) (upward (height_of s.n) ((leaves s.n + n) / 2) i) on)
  where
    go : node_in s v (leaves s.n + n) ≡ leaf_of s v n
        → (upward (height_of s.n) ((leaves s.n + n) / 2) i ≡ true → node_in s v i ≡ inner_of (node_in s v (2 * i)) (node_in s v (2 * i + 1)))
        → (eqb (leaves s.n + n) i ≡ true) ⊎ (upward (height_of s.n) ((leaves s.n + n) / 2) i ≡ true) → node_in s v i ≡ blake2s [] (message_of s v i)
    go leaf above (inl q) =
        let z : leaves s.n + n ≡ i = eqb-true _ _ q in
        rw (← z) (leaf ∙ ap (λ (m : List ℕ). blake2s [] m) (sym (message-leaf s v n)))
    go leaf above (inr u) =
        let low : i < leaves s.n = omega (arith, upward-le (height_of s.n) ((leaves s.n + n) / 2) i u, (lent_small l).enough_leaves, h) in
        above u ∙ ap (λ (m : List ℕ). blake2s [] m) (sym (message-inner s v i low))

-- at the node where the paths meet
module _ (s : Shape) (v w : List ℕ) (n : ℕ) (lv : Shaped s v) (lw : Shaped s w) (h : n < s.n) (top : node_in s v 1 ≡ node_in s w 1) where
  met : Meets s v w (height_of s.n) (leaves s.n + n) (meeting s v w n)
  met = paths_meet s v w n lv h top

  met_path : on_path s n (meeting s v w n) ≡ true
  unfolding Paths.on_path
  met_path = met.on

  met_alike : (g g' : Gauge) → path_of s g v n ≡ A.Accepted → path_of s g' w n ≡ A.Accepted
      → blake2s [] (message_of s v (meeting s v w n)) ≡ blake2s [] (message_of s w (meeting s v w n))
  met_alike g g' ev ew =
      sym (path_hashes s g v n (meeting s v w n) lv h ev met_path) ∙ met.alike ∙ path_hashes s g' w n (meeting s v w n) lw h ew met_path

  -- the messages tell a leaf's record and tags, or the node below in which the volumes differ
  met_differ : (Alike s v w n → ⊥) → message_of s v (meeting s v w n) ≡ message_of s w (meeting s v w n) → ⊥
  met_differ other e = go (meeting s v w n) e met.above
    where
      child : (m c : ℕ) → c / 2 ≡ m → (node_in s v (2 * m) ≡ node_in s w (2 * m)) × (node_in s v (2 * m + 1) ≡ node_in s w (2 * m + 1))
          → (eqb c (2 * m) ≡ true) ⊎ (eqb c (2 * m) ≡ false) → node_in s v c ≡ node_in s w c
      child m c half two (inl q) = let z : c ≡ 2 * m = eqb-true c (2 * m) q in rw z two.0
      child m c half two (inr q) = let z : c ≡ 2 * m + 1 = omega (arith, half, eqb-false c (2 * m) q) in rw z two.1

      go : (m : ℕ) → message_of s v m ≡ message_of s w m → (m ≡ leaves s.n + n) ⊎ Below s v w m → ⊥
      go m q (inl z) = other (leaf-told s v w lv lw n h (sym (message-leaf s v n) ∙ (rw z at q) ∙ message-leaf s w n))
      go m q (inr b) =
          let low : m < leaves s.n = omega (arith, b.half, b.low) in
          let two = inner-told s v w lv lw m low (sym (message-inner s v m low) ∙ q ∙ message-inner s w m low) in
          b.differ (child m b.child b.half two (told (eqb b.child (2 * m))))

  pub meeting_collides : (g g' : Gauge) → path_of s g v n ≡ A.Accepted → path_of s g' w n ≡ A.Accepted → (Alike s v w n → ⊥) → Collision s v w n
  meeting_collides g g' ev ew other = record { node = meeting s v w n; path = met_path; differ = met_differ other; alike = met_alike g g' ev ew }

pub path_excludes : PathExcludes
path_excludes s g g' v w n lv lw h ev ew top other = meeting_collides s v w n lv lw h top g g' ev ew other

-- the test of record and tags is the fact
module _ (s : Shape) (v w : List ℕ) (n : ℕ) where
  alike_true : alike_in s v w n ≡ true → Alike s v w n
  unfolding alike_in
  alike_true e =
      record {
        records = same_true _ _ (both_left _ _ e);
        tags = same_true _ _ (both_right (same (record_part s v n) (record_part s w n)) _ e);
      }

  true_alike : Alike s v w n → alike_in s v w n ≡ true
  unfolding alike_in
  true_alike a =
      both-on {a = same (record_part s v n) (record_part s w n)} {b = same (tags_part s v n) (tags_part s w n)}
      (rw a.records (same_refl (record_part s w n))) (rw a.tags (same_refl (tags_part s w n)))

-- the three cases of what is found
module _ (d : Drive) (v w : List ℕ) (n : ℕ) (u : List ℕ) where
  found_refused : accepts (twins_answer d v w n) ≡ false → twin_in d v w n u ≡ []
  unfolding twin_in
  found_refused e = no _ e refl

  found_none : alike_in (shape_of d) v w n ≡ true → twin_in d v w n u ≡ []
  unfolding twin_in found_in
  found_none e = go (told (accepts (twins_answer d v w n)))
    where
      go : (accepts (twins_answer d v w n) ≡ true) ⊎ (accepts (twins_answer d v w n) ≡ false) → twin_in d v w n u ≡ []
      go (inl a) = yes _ a (yes _ e refl)
      go (inr a) = no _ a refl

  found_met : accepts (twins_answer d v w n) ≡ true → alike_in (shape_of d) v w n ≡ false → twin_in d v w n u ≡ message_of (shape_of d) u (meeting (shape_of d) v w n)
  unfolding twin_in found_in
  found_met a e = yes _ a (no _ e refl)

-- how long it is
module _ (d : Drive) (v w : List ℕ) (n : ℕ) (a : accepts (twins_answer d v w n) ≡ true) where
  met_long : (u : List ℕ) → Shaped (shape_of d) u → alike_in (shape_of d) v w n ≡ false → length (twin_in d v w n u) ≡ long_of (shape_of d) (meeting (shape_of d) v w n)
  met_long u l e =
      let j = (judged d v w n a).sized in
      ap length (found_met d v w n u a e)
      ∙ message-long (shape_of d) u l (meeting (shape_of d) v w n) (meeting-within (shape_of d) v w n j.first j.there).1

pub twins_refused : TwinsRefused
unfolding twins_of
twins_refused d v w n e = ap length (found_refused d v w n v e)

-- found means accepted and not alike
met_by : (d : Drive) (v w : List ℕ) (n : ℕ) → 0 < (twins_of d v w n).length → (accepts (twins_answer d v w n) ≡ true) × (alike_in (shape_of d) v w n ≡ false)
unfolding twins_of
met_by d v w n h = (go_answer (told (accepts (twins_answer d v w n))), go_alike (told (alike_in (shape_of d) v w n)))
  where
    none : twin_in d v w n v ≡ [] → ⊥
    none e = let z : length (twin_in d v w n v) ≡ 0 = ap length e in omega arith

    go_answer : (accepts (twins_answer d v w n) ≡ true) ⊎ (accepts (twins_answer d v w n) ≡ false) → accepts (twins_answer d v w n) ≡ true
    go_answer (inl e) = e
    go_answer (inr e) = absurd (none (found_refused d v w n v e))

    go_alike : (alike_in (shape_of d) v w n ≡ true) ⊎ (alike_in (shape_of d) v w n ≡ false) → alike_in (shape_of d) v w n ≡ false
    go_alike (inl e) = absurd (none (found_none d v w n v e))
    go_alike (inr e) = e

pub twins_collide : TwinsCollide
unfolding twins_of
twins_collide d v w n h =
    let s = shape_of d in
    let q = met_by d v w n h in
    let j = judged d v w n q.0 in
    let top = j.first.top ∙ sym j.second.top in
    let one = met_long d v w n q.0 v j.sized.first q.1 in
    let two = met_long d v w n q.0 w j.sized.second q.1 in
    record {
      collision =
          record {
            node = meeting s v w n;
            path = met_path s v w n j.sized.first j.sized.second j.sized.there top;
            differ =
                met_differ s v w n j.sized.first j.sized.second j.sized.there top
                (λ a. clash (true_alike s v w n a) q.1);
            alike = met_alike s v w n j.sized.first j.sized.second j.sized.there top (gauge_of d) (gauge_of d) j.first.path j.second.path;
          };
      first = found_met d v w n v q.0 q.1;
      second = found_met d v w n w q.0 q.1;
      equally = (refl, two ∙ sym one);
      fits = omega (arith, one, (long-some s (meeting s v w n) j.sized.first).1);
    }

pub twins_nothing : TwinsNothing
unfolding twins_of
twins_nothing d v w n e = (λ z. go z (told (alike_in (shape_of d) v w n)), λ a. ap length (found_none d v w n v (true_alike (shape_of d) v w n a)))
  where
    go : length (twin_in d v w n v) ≡ 0 → (alike_in (shape_of d) v w n ≡ true) ⊎ (alike_in (shape_of d) v w n ≡ false) → Alike (shape_of d) v w n
    go z (inl q) = alike_true (shape_of d) v w n q
    go z (inr q) =
        let j = judged d v w n (ap accepts e) in
        absurd (omega (arith, z, met_long d v w n (ap accepts e) v j.sized.first q, (long-some (shape_of d) (meeting (shape_of d) v w n) j.sized.first).0))

-- nothing found is nothing stored
pub twins_store-nothing : TwinsStoreNothing
unfolding twins_of
twins_store-nothing d v w n z given = go (told (accepts (twins_answer d v w n)))
  where
    none : (u : List ℕ) → twin_in d v w n u ≡ [] → sets given 0 (twin_in d v w n u) ≡ given
    none u e = rw e refl

    go : (accepts (twins_answer d v w n) ≡ true) ⊎ (accepts (twins_answer d v w n) ≡ false)
        → (sets given 0 (twin_in d v w n v) ≡ given) × (sets given 0 (twin_in d v w n w) ≡ given)
    go (inl a) =
        let q = true_alike (shape_of d) v w n ((twins_nothing d v w n (accepted_is _ a)).0 z) in
        (none v (found_none d v w n v q), none w (found_none d v w n w q))
    go (inr a) = (none v (found_refused d v w n v a), none w (found_refused d v w n w a))
