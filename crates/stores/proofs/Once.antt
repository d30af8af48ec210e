-- The theorems of specs/Once.antt, each under its name.
use mathlib.Core.Path.{◌≡◌, refl, ap}
use mathlib.Core.Bool.{Bool, true, false}
use mathlib.Core.List.{List, [], ◌++◌}
use Prim.Native.Nat.{ℕ, ◌+◌, ◌*◌, ◌≤◌}
use native.Mathlib.Omega.{arith}
use lib.ListN.{length}
use borrow.Author.Tests.{ltb-true}
use Rattle.base.specs.Pick.{pick}
use Rattle.base.proofs.PickLaws.{both_left, both_right}
use Rattle.layout.specs.declared.Shape.{Shape}
use Rattle.layout.specs.Shaped.{Shaped}
use Rattle.layout.specs.Parts.{tags_at, tag_at, tree_at, flakes_at, flake_at}
use Rattle.layout.proofs.Places.{parts_inside}
use Rattle.answers.specs.Numbers.{accepts}
use Rattle.records.specs.declared.Way.{Way}
use Rattle.records.specs.declared.Way.TheVariants.{Clear}
use Rattle.records.specs.Journal.{flake_range}
use Rattle.records.specs.Record.{record_of}
use Rattle.records.specs.Rule.{sweep_way}
use Rattle.drive.specs.declared.Drive.{Drive}
use Rattle.drive.specs.Drive.{shape_of}
use Rattle.drive.specs.Head.{head_of}
use Rattle.opening.proofs.Reopens.{length-head}
use Rattle.nuggets.specs.Nugget.{contents_of}
use Rattle.changes.specs.Laid.{laid}
use Rattle.changes.specs.Change.{idles, only_at, pads_for, marked_to, advanced}
use Rattle.changes.specs.Write.{write_way, write_answer, writes, new_contents, written_drive}
use Rattle.changes.specs.Rekey.{begin_answer, begun_drive, sweep_answer, swept_drive, finish_answer, finished_drive}
use Rattle.changes.specs.Discard.{discard_answer, clears, discarded_drive}
use Rattle.changes.proofs.LaidLaws.{Long}
use Rattle.changes.proofs.SweepLaws.{way_other}
use Rattle.changes.proofs.AnswerLaws.{sweep-told, write-told}
use Rattle.changes.proofs.DiscardLaws.{discard-told}
use Rattle.changes.proofs.Relaid.{long_new, long_same}
use Rattle.history.specs.World.{Call, mount, write, begin, sweep, finish, discard, asks}
use Rattle.history.specs.History.{Start, history}
use Rattle.history.proofs.Steps.{sound}
use Rattle.stores.specs.Store.{Store}
use Rattle.stores.specs.Work.{laid_stores, mark_stores, tend_stores, work_stores, head_stores}
use Rattle.stores.specs.Calls.{write_stores, begin_stores, sweep_stores, finish_stores, discard_stores, stores_of}
use Rattle.stores.specs.Once.{hits, stored_times, StoredOnce, SweepOnce, DiscardOnce, WriteOnce}
use Rattle.stores.proofs.OnceLaws.{hits-le, hits_join, times-append, times-one, times_none, times_to, times_marks, times-outside, times_alone}

-- a list that is there only if a test holds
times-pick : (b : Bool) (xs : List Store) (a : ℕ) → (b ≡ true → stored_times xs a ≤ 1) → stored_times (pick b xs []) a ≤ 1
times-pick true xs a h = h refl
times-pick false xs a h = omega (arith, times_none a)

-- the head alone
times-head : (d : Drive) (a : ℕ) → length d.salt ≡ 16 → stored_times (head_stores d) a ≡ hits 0 104 a
unfolding head_stores
times-head d a salted = times-one 0 104 a (head_of d) (length-head d salted)

-- a change of nuggets and its head
module _ (d e : Drive) (v : List ℕ) (way : ℕ → Way) (new : ℕ → ℕ → List ℕ) (salted : length e.salt ≡ 16) (lent : Shaped (shape_of d) v) (long : Long (shape_of d) new) (a : ℕ) where
  abbrev s : Shape
  s = shape_of d

  abbrev marked : List ℕ
  marked = marked_to s d.epoch way v d.n (laid s d.salt new (pads_for d v way) v)

  -- with no more stores in the tree than one for each byte
  times_change : ((w : List ℕ) → stored_times (tend_stores s way d.n w) a ≤ hits (tree_at s) (flakes_at s) a) → stored_times (work_stores d v way new ++ head_stores e) a ≤ 1
  unfolding work_stores
  times_change tree =
      let flakes = laid_stores s d.salt new (pads_for d v way) in
      let marks = mark_stores s d.epoch way v d.n in
      let tends = tend_stores s way d.n marked in
      let one = times_to s d.salt new long a way (record_of s v) d.present d.n (omega arith) in
      let two = times_marks s d.epoch way v a d.n in
      let ends : tag_at s d.n 0 ≡ tree_at s = ap (λ (i : ℕ). tags_at s + 16 * i) (omega arith) in
      let front = hits_join 0 104 104 (tags_at s) a (omega arith) (omega arith) (omega arith) in
      let tags = hits_join 0 (tags_at s) (tags_at s) (tree_at s) a (omega arith) (omega arith) (omega (arith, parts_inside s)) in
      let nodes = hits_join 0 (tree_at s) (tree_at s) (flakes_at s) a (omega arith) (omega arith) (omega (arith, parts_inside s)) in
      let all = hits_join 0 (flakes_at s) (flakes_at s) (flake_at s d.n 0) a (omega arith) (omega arith) (omega arith) in
      rw (times-append (flakes ++ (marks ++ tends)) (head_stores e) a, times-append flakes (marks ++ tends) a, times-append marks tends a, times-head e a salted)
      (omega (arith, rw ends at one, two, tree marked, front, tags, nodes, all, hits-le 0 (flake_at s d.n 0) a))

-- a change of one nugget, its contents kept
times_only : (d e : Drive) (v : List ℕ) (n : ℕ) (way : Way) → length e.salt ≡ 16 → Shaped (shape_of d) v → (a : ℕ)
    → stored_times (work_stores d v (only_at n way) (contents_of d v) ++ head_stores e) a ≤ 1
times_only d e v n way salted lent a =
    times_change d e v (only_at n way) (contents_of d v) salted lent (long_same d v lent) a
    (λ u. (times_alone (shape_of d) a v lent (only_at n way) n d.n u (omega arith) (λ m q. ap idles (way_other n way m q))).0)

pub sweep-once : SweepOnce
unfolding stores_of sweep_stores advanced
sweep-once start calls n a =
    let w = history start calls in
    let d = w.drive in
    let v = w.vol in
    times-pick (accepts (sweep_answer d v n)) _ a (λ ok.
    times_only d (swept_drive d v n) v n sweep_way (sound start calls).handed.salt_long_lem (sweep-told d v n ok).lent a)

pub discard-once : DiscardOnce
unfolding stores_of discard_stores advanced
discard-once start calls n first count a =
    let w = history start calls in
    let d = w.drive in
    let v = w.vol in
    times-pick (clears d v n first count) _ a (λ ok.
    let t = discard-told d v n first count (both_left (accepts (discard_answer d v n first count)) _ ok) in
    times_only d (discarded_drive d v n first count) v n (Clear (flake_range first count)) (sound start calls).handed.salt_long_lem t.lent a)

-- a write of a history, by the stores that it makes in the tree
times-write : (start : Start) (calls : List Call) (o : ℕ) (bytes : List ℕ) (a : ℕ) → let w = history start calls in let s = shape_of w.drive in
    (Shaped s w.vol → (u : List ℕ) → stored_times (tend_stores s (write_way w.drive w.vol o (length bytes)) s.n u) a ≤ hits (tree_at s) (flakes_at s) a)
    → stored_times (stores_of w (write o bytes)) a ≤ 1
unfolding stores_of write_stores advanced
times-write start calls o bytes a tree =
    let w = history start calls in
    let d = w.drive in
    let v = w.vol in
    let answered = accepts (write_answer d v o (length bytes)) in
    times-pick (writes (write_answer d v o (length bytes)) bytes) _ a (λ ok.
    let t = write-told d v o (length bytes) (ltb-true 0 (length bytes) (both_right answered _ ok)) (both_left answered _ ok) in
    times_change d (written_drive d v o bytes) v (write_way d v o (length bytes)) (new_contents d v o bytes) (sound start calls).handed.salt_long_lem t.lent (long_new d v t.lent o bytes) a
    (tree t.lent))

pub write-once : WriteOnce
write-once start calls o bytes n a others =
    let w = history start calls in
    let d = w.drive in
    let ways = write_way d w.vol o (length bytes) in
    times-write start calls o bytes a (λ lent u. (times_alone (shape_of d) a w.vol lent ways n d.n u (omega arith) others).0)

pub stored-once : StoredOnce
unfolding stores_of begin_stores finish_stores begun_drive finished_drive
stored-once start calls (mount any) a out = omega (arith, times_none a)
stored-once start calls (write o bytes) a out =
    let w = history start calls in
    let d = w.drive in
    let ways = write_way d w.vol o (length bytes) in
    times-write start calls o bytes a (λ lent u. omega (arith, times-outside (shape_of d) a w.vol lent ways d.n u (omega arith) out))
stored-once start calls (begin secret) a out =
    let w = history start calls in
    times-pick (accepts (begin_answer w.drive w.vol secret)) _ a (λ ok. rw (times-head (begun_drive w.drive secret) a (sound start calls).handed.salt_long_lem) (hits-le 0 104 a))
stored-once start calls (sweep n) a out = sweep-once start calls n a
stored-once start calls finish a out =
    let w = history start calls in
    times-pick (accepts (finish_answer w.drive w.vol)) _ a (λ ok. rw (times-head (finished_drive w.drive) a (sound start calls).handed.salt_long_lem) (hits-le 0 104 a))
stored-once start calls (discard n first count) a out = discard-once start calls n first count a
stored-once start calls (asks q) a out = omega (arith, times_none a)
