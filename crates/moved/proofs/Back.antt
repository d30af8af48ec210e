-- Moved there and back: records by their bytes, tags because they had passed, nodes because records and tags decide them, the head by
-- its pieces.
use mathlib.Core.Path.{◌≡◌, refl, sym, ap, ap₂, subst, ◌∙◌}
use mathlib.Core.Bool.{true, false}
use mathlib.Core.Logic.{⊎_elim}
use mathlib.Core.List.{List, [], ◌++◌, append_assoc, append-nil}
use Prim.{tt}
use Prim.Native.Nat.{ℕ, zero, suc, ◌+◌, ◌-◌, ◌*◌, ◌<◌, ◌≤◌}
use native.Mathlib.Nat.{suc-mul}
use native.Mathlib.Omega.{arith}
use lib.ListN.{length, drop, length-append, length-drop}
use lib.Seq.{take_all}
use Rattle.base.specs.Lists.{part}
use Rattle.base.proofs.PickLaws.{told}
use Rattle.base.proofs.PartLaws.{part-part, part-append, part-next}
use Rattle.words.specs.Le.{le, Bytes}
use Rattle.words.proofs.LeLaws.{length-le}
use Rattle.codec.specs.Row.{◌&◌}
use Rattle.codec.proofs.RowLaws.{length-row}
use Rattle.layout.specs.declared.Shape.{Shape}
use Rattle.layout.specs.Shape.{shape_as, known_version, leaves, width_of}
use Rattle.layout.specs.Shaped.{Shaped}
use Rattle.layout.specs.Parts.{tags_at, tree_at, flakes_at, length_of, record_at, tag_at, node_at}
use Rattle.layout.specs.Spots.{capacity}
use Rattle.layout.proofs.Places.{record_room}
use Rattle.records.specs.declared.Record.{Record}
use Rattle.records.specs.Journal.{bit}
use Rattle.records.specs.Record.{record_bytes, record_of, Codes}
use Rattle.records.proofs.RecordLaws.{stored-read}
use Rattle.keys.specs.Keys.{seal_of}
use Rattle.keys.specs.Tags.{covered, tag_of}
use Rattle.keys.proofs.KeyLaws.{length-check as length-of-check}
use Rattle.nodes.specs.Nodes.{node_in, record_part, tags_part}
use Rattle.nodes.specs.Alike.{Alike}
use Rattle.tree.specs.Good.{AllGood}
use Rattle.tree.proofs.FreshLaws.{same_nodes}
use Rattle.tree.proofs.WholeLaws.{whole-good}
use Rattle.drive.specs.declared.Drive.{Drive}
use Rattle.drive.specs.declared.State.{State}
use Rattle.drive.specs.declared.State.TheVariants.{Steady, Changing}
use Rattle.drive.specs.Drive.{shape_of, gauge_of, kept_old, counter_top}
use Rattle.drive.specs.Head.{mark, kind_byte, numbers_row, numbers_of, check_for, check_in, front_in, head_of}
use Rattle.drive.proofs.HeadLaws.{front_pieces_lem}
use Rattle.nuggets.specs.Nugget.{lock_for, stored_in}
use Rattle.changes.specs.Change.{advanced}
use Rattle.detection.proofs.RightLaws.{head_right, tag_right}
use Rattle.history.proofs.Quiet.{Untouched, untouched_lent, whole_quiet, flakes_quiet}
use Rattle.moving.specs.Carry.{entered, nugget_under, new_tag, moved_drive, moved_volume}
use Rattle.moving.proofs.AnswerLaws.{Leaves}
use Rattle.moved.specs.Moves.{Typed, SameButSeal}
use Rattle.moved.proofs.After as After
use lib.ListN.{length-replicate}

-- cells in a row that are equal one by one are equal together
glued : (a b : List ℕ) (at w k : ℕ) → ((i : ℕ) → i < k → part (at + i * w) w a ≡ part (at + i * w) w b) → part at (k * w) a ≡ part at (k * w) b
glued a b at w zero h = let e : 0 * w ≡ 0 = omega arith in rw e refl
glued a b at w (suc k) h =
    let e : suc k * w ≡ k * w + w = suc-mul k w in
    ap (λ (m : ℕ). part at m a) e
    ∙ sym (part-append at (k * w) w (at + k * w) a refl)
    ∙ ap₂ ◌++◌ (glued a b at w k (λ i c. h i (omega (arith, c)))) (h k (omega arith))
    ∙ part-append at (k * w) w (at + k * w) b refl
    ∙ ap (λ (m : ℕ). part at m b) (sym e)

-- records, tags, tree and flakes, one behind the other
abbrev four : Shape → List ℕ → List ℕ
four s l = part 104 (s.n * width_of s) l ++ (part (tags_at s) (16 * (s.n * s.p)) l ++ (part (tree_at s) (32 * (2 * leaves s.n - 1)) l ++ part (flakes_at s) (capacity s) l))

-- two volumes of one shape that agree in records, tags, nodes and flakes agree behind the head
parts_decide : (s : Shape) (a b : List ℕ) → length a ≡ length_of s → length b ≡ length_of s
    → ((n : ℕ) → n < s.n → Alike s a b n) → ((i : ℕ) → 1 ≤ i → i < 2 * leaves s.n → node_in s a i ≡ node_in s b i)
    → part (flakes_at s) (capacity s) a ≡ part (flakes_at s) (capacity s) b → drop 104 a ≡ drop 104 b
parts_decide s a b la lb alike nodes flakes =
    whole a la ∙ ap₂ ◌++◌ records (ap₂ ◌++◌ tags (ap₂ ◌++◌ tree flakes)) ∙ sym (whole b lb)
  where
    whole : (l : List ℕ) → length l ≡ length_of s → drop 104 l ≡ four s l
    whole l e =
        sym (take_all (s.n * width_of s + (16 * (s.n * s.p) + (32 * (2 * leaves s.n - 1) + capacity s))) (drop 104 l) (rw (length-drop 104 l, e) (omega arith)))
        ∙ sym (part-append 104 (s.n * width_of s) (16 * (s.n * s.p) + (32 * (2 * leaves s.n - 1) + capacity s)) (tags_at s) l refl)
        ∙ ap (λ (z : List ℕ). part 104 (s.n * width_of s) l ++ z)
        (sym (part-append (tags_at s) (16 * (s.n * s.p)) (32 * (2 * leaves s.n - 1) + capacity s) (tree_at s) l refl)
        ∙ ap (λ (z : List ℕ). part (tags_at s) (16 * (s.n * s.p)) l ++ z)
        (sym (part-append (tree_at s) (32 * (2 * leaves s.n - 1)) (capacity s) (flakes_at s) l refl)))

    records : part 104 (s.n * width_of s) a ≡ part 104 (s.n * width_of s) b
    records = glued a b 104 (width_of s) s.n (λ n h. (alike n h).records)

    tags : part (tags_at s) (16 * (s.n * s.p)) a ≡ part (tags_at s) (16 * (s.n * s.p)) b
    tags =
        let e : s.n * (16 * s.p) ≡ 16 * (s.n * s.p) = omega arith in
        ap (λ (m : ℕ). part (tags_at s) m a) (sym e)
        ∙ glued a b (tags_at s) (16 * s.p) s.n (λ n h.
        let at : tags_at s + n * (16 * s.p) ≡ tag_at s n 0 = omega arith in
        rw at (alike n h).tags)
        ∙ ap (λ (m : ℕ). part (tags_at s) m b) e

    tree : part (tree_at s) (32 * (2 * leaves s.n - 1)) a ≡ part (tree_at s) (32 * (2 * leaves s.n - 1)) b
    tree =
        let e : (2 * leaves s.n - 1) * 32 ≡ 32 * (2 * leaves s.n - 1) = omega arith in
        ap (λ (m : ℕ). part (tree_at s) m a) (sym e)
        ∙ glued a b (tree_at s) 32 (2 * leaves s.n - 1) (λ i h.
        let at : tree_at s + i * 32 ≡ node_at s (i + 1) = omega arith in
        rw at (nodes (i + 1) (omega arith) (omega (arith, h))))
        ∙ ap (λ (m : ℕ). part (tree_at s) m b) e

-- a nugget's tags one by one
tags_decide : (s : Shape) (a b : List ℕ) (n : ℕ) → ((f : ℕ) → f < s.p → part (tag_at s n f) 16 a ≡ part (tag_at s n f) 16 b) → tags_part s a n ≡ tags_part s b n
tags_decide s a b n h =
    let e : s.p * 16 ≡ 16 * s.p = omega arith in
    ap (λ (m : ℕ). part (tag_at s n 0) m a) (sym e)
    ∙ glued a b (tag_at s n 0) 16 s.p (λ f c.
    let at : tag_at s n 0 + f * 16 ≡ tag_at s n f = omega arith in
    rw at (h f c))
    ∙ ap (λ (m : ℕ). part (tag_at s n 0) m b) e

-- the head's pieces that a move keeps
abbrev numbers_in : Drive → List ℕ
numbers_in d = numbers_of d.version d.n d.p d.f (kind_byte d) d.epoch

length-numbers : (d : Drive) → length (numbers_in d) ≡ 16
unfolding numbers_of
length-numbers d = length-row numbers_row (mark & d.version & kind_byte d & d.epoch & d.n & d.p & d.f & tt) (refl & tt & tt & tt & tt & tt & tt & tt)

length-check : (s : State) (old salt : List ℕ) (epoch : ℕ) → length (check_for s old salt epoch) ≡ 32
length-check Steady old salt epoch = length-replicate {A = ℕ} 32 0
length-check (Changing left) old salt epoch = length-of-check old salt epoch

check-kept : (s : State) (old salt : List ℕ) (epoch : ℕ) → check_for s (kept_old s old) salt epoch ≡ check_for s old salt epoch
check-kept Steady old salt epoch = refl
check-kept (Changing left) old salt epoch = refl

module _ (d : Drive) (salted : length d.salt ≡ 16) where
  abbrev seal : List ℕ
  seal = seal_of d.present (front_in d) d.node

  head_is : head_of d ≡ (numbers_in d ++ (d.salt ++ (le 8 d.counter ++ (check_in d ++ [])))) ++ seal
  unfolding head_of
  head_is = ap (λ (x : List ℕ). x ++ seal) (sym (front_pieces_lem d))

  head-front : part 0 32 (head_of d) ≡ numbers_in d ++ d.salt
  head-front =
      ap (part 0 32) (head_is ∙ regroup (numbers_in d) d.salt (le 8 d.counter) (check_in d) seal)
      ∙ part-next 0 32 [] (numbers_in d ++ d.salt) (le 8 d.counter ++ (check_in d ++ seal)) refl (simp length-append (omega (arith, length-numbers d, salted)))
    where
      regroup : (a b k c z : List ℕ) → (a ++ (b ++ (k ++ (c ++ [])))) ++ z ≡ [] ++ ((a ++ b) ++ (k ++ (c ++ z)))
      regroup a b k c z = simp (append_assoc, append-nil)

  head-check : part 40 32 (head_of d) ≡ check_in d
  head-check =
      ap (part 40 32) (head_is ∙ regroup (numbers_in d) d.salt (le 8 d.counter) (check_in d) seal)
      ∙ part-next 40 32 (numbers_in d ++ (d.salt ++ le 8 d.counter)) (check_in d) seal (simp length-append (omega (arith, length-numbers d, salted, length-le 8 d.counter)))
      (length-check d.state d.old d.salt d.epoch)
    where
      regroup : (a b k c z : List ℕ) → (a ++ (b ++ (k ++ (c ++ [])))) ++ z ≡ (a ++ (b ++ k)) ++ (c ++ z)
      regroup a b k c z = simp (append_assoc, append-nil)

-- of a volume with that head
front_in_lem : (d : Drive) (v : List ℕ) → length d.salt ≡ 16 → part 0 104 v ≡ head_of d → part 0 32 v ≡ numbers_in d ++ d.salt
front_in_lem d v salted e = sym (part-part 0 32 0 104 v (omega arith)) ∙ ap (part 0 32) e ∙ head-front d salted

check_in_lem : (d : Drive) (v : List ℕ) → length d.salt ≡ 16 → part 0 104 v ≡ head_of d → part 40 32 v ≡ check_in d
check_in_lem d v salted e = sym (part-part 40 32 0 104 v (omega arith)) ∙ ap (part 40 32) e ∙ head-check d salted

module _ (leave enter : ℕ) (d : Drive) (v : List ℕ) (len : ℕ) (known : known_version leave ≡ true) (known' : known_version enter ≡ true) (typed : Typed d) (x : Leaves leave enter d v len) where
  abbrev s : Shape
  s = shape_of d

  abbrev t : Shape
  t = entered enter d

  abbrev e : Drive
  e = moved_drive enter d v

  abbrev u : List ℕ
  u = moved_volume enter d v

  abbrev codes : (n : ℕ) → n < d.n → Codes t (record_of s v n)
  codes = After.codes_over leave enter d v len typed x

  own_codes : (n : ℕ) → n < d.n → Codes s (record_of s v n)
  own_codes n h =
      let k = codes n h in
      record { keycount_width = k.keycount_width; spent_width = k.spent_width; held_width = k.held_width; epoch_width = k.epoch_width; one_mask = λ one. x.kept n h }

  record_after : (n : ℕ) → n < d.n → record_of t u n ≡ record_of s v n
  record_after n h = After.record_after leave enter d v len known' typed.salted codes x n h

  tag_passed : (n f : ℕ) → n < d.n → f < d.p → bit (record_of s v n).held f ≡ true → part (tag_at s n f) 16 v ≡ tag_of (lock_for d v n) f (stored_in s v n f)
  unfolding tag_of covered
  tag_passed n f a b on = tag_right d v n (record_of s v n).held f (x.held n a) b on

  -- back in the version that was left
  pub shape-back : entered leave e ≡ s
  unfolding advanced
  shape-back = λ i. shape_as (sym x.left i) d.cipher d.n d.p d.f

  untouched : Untouched e u
  untouched = After.moved-untouched leave enter d v len known' typed.salted codes x

  -- the tests of moving back pass
  pub back-leaves : (room : ℕ) → room ≡ length v → (e.counter ≡ counter_top → ⊥) → Leaves enter leave e u room
  unfolding advanced
  back-leaves room long low =
      record {
        opens = untouched.opens;
        lent = untouched_lent e u untouched;
        long = long ∙ x.lent.size ∙ sym (ap (λ (z : Shape). length_of z) shape-back);
        left = refl;
        whole = whole_quiet e u untouched;
        held = λ n h. flakes_quiet e u untouched n (record_of (shape_of e) u n).held h (λ f on. on);
        kept = λ n h. (After.carried-after leave enter d v len known' typed.salted codes x n h).all_held;
        counter_room = low;
      }

  module _ (bytes : Bytes v) (room : ℕ) (y : Leaves enter leave e u room) where
    abbrev e₂ : Drive
    e₂ = moved_drive leave e u

    abbrev u₂ : List ℕ
    u₂ = moved_volume leave e u

    salted-after : length e.salt ≡ 16
    unfolding advanced
    salted-after = typed.salted

    codes_after : (n : ℕ) → n < e.n → Codes (entered leave e) (record_of (shape_of e) u n)
    unfolding advanced
    codes_after n h = subst (λ (z : Shape). Codes z (record_of t u n)) (sym shape-back) (subst (λ (r : Record). Codes s r) (sym (record_after n h)) (own_codes n h))

    back_record : (n : ℕ) → n < d.n → record_part s u₂ n ≡ record_part s v n
    unfolding advanced
    back_record n h =
        ap (λ (z : Shape). record_part z u₂ n) (sym shape-back)
        ∙ After.record_bytes_lem enter leave e u room known salted-after codes_after y n h
        ∙ ap (λ (z : Shape). record_bytes z (record_of t u n)) shape-back
        ∙ ap (record_bytes s) (record_after n h)
        ∙ stored-read s v (record_at s n) (bytes) (record_room n x.lent h)

    -- a held flake's tag is the one that had passed, an absent one's was copied twice
    back-tag : (n f : ℕ) → n < d.n → f < d.p → part (tag_at s n f) 16 u₂ ≡ part (tag_at s n f) 16 v
    unfolding advanced new_tag
    back-tag n f a b =
        ap (λ (z : Shape). part (tag_at z n f) 16 u₂) (sym shape-back)
        ∙ After.tag-after enter leave e u room known salted-after codes_after y n f a b
        ∙ ap (λ (z : Shape). new_tag t u (nugget_under e z (record_of t u n) n) f) shape-back
        ∙ ap (λ (r : Record). new_tag t u (nugget_under e s r n) f) (record_after n a)
        ∙ ⊎_elim
        (λ (on : bit (record_of s v n).held f ≡ true).
        rw (on, After.stored-after leave enter d v len known' typed.salted codes x n f a b, After.secret-after leave enter d v len known' typed.salted codes x n a)
        (sym (tag_passed n f a b on)))
        (λ (off : bit (record_of s v n).held f ≡ false).
        rw off (After.tag-after leave enter d v len known' typed.salted codes x n f a b ∙ rw off refl))
        (told (bit (record_of s v n).held f))

    back-alike : (n : ℕ) → n < d.n → Alike s u₂ v n
    back-alike n h = record { records = back_record n h; tags = tags_decide s u₂ v n (λ f c. back-tag n f h c) }

    back_lent : Shaped s u₂
    unfolding advanced
    back_lent = subst (λ (z : Shape). Shaped z u₂) shape-back (After.lent_after enter leave e u room known salted-after codes_after y)

    back-rest : drop 104 u₂ ≡ drop 104 v
    unfolding advanced
    back-rest =
        parts_decide s u₂ v back_lent.size x.lent.size back-alike
        (same_nodes s u₂ v (subst (λ (z : Shape). AllGood z u₂) shape-back (After.good-after enter leave e u room known salted-after codes_after y)) (whole-good s (gauge_of d) v x.whole) back-alike)
        (ap (λ (z : Shape). part (flakes_at z) (capacity z) u₂) (sym shape-back) ∙ After.flakes-after enter leave e u room known salted-after codes_after y ∙ After.flakes-after leave enter d v len known' typed.salted codes x)

    back-salted : length e₂.salt ≡ 16
    unfolding advanced
    back-salted = typed.salted

    back_head : part 0 104 u₂ ≡ head_of e₂
    back_head = After.head-after enter leave e u room known salted-after codes_after y

    -- "except for counter and seal"
    pub back-same : SameButSeal v u₂
    unfolding advanced
    back-same =
        let was = (head_right d v x.opens).head in
        record {
          front = front_in_lem e₂ u₂ back-salted back_head ∙ ap (λ (z : ℕ). numbers_of z d.n d.p d.f (kind_byte d) d.epoch ++ d.salt) (sym x.left) ∙ sym (front_in_lem d v typed.salted was);
          check =
              check_in_lem e₂ u₂ back-salted back_head
              ∙ check-kept d.state (kept_old d.state d.old) d.salt d.epoch
              ∙ check-kept d.state d.old d.salt d.epoch
              ∙ sym (check_in_lem d v typed.salted was);
          rest = back-rest;
        }
