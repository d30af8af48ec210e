-- One call after another: what is written stays until it is written over or discarded, and what reads as zero until it is written.
use mathlib.Core.Path.{◌≡◌, refl, ap, ◌∙◌}
use mathlib.Core.Bool.{Bool, true, false}
use mathlib.Core.List.{List, [], ◌∷◌, ◌++◌}
use Prim.Native.Nat.{ℕ, ◌+◌, ◌-◌, ◌<◌}
use native.Mathlib.Omega.{arith}
use lib.Dec.{leb, ltb}
use lib.ListN.{length, get_or}
use borrow.Author.Tests.{le-leb, lt-ltb}
use Rattle.base.specs.Pick.{pick, both}
use Rattle.base.proofs.PickLaws.{yes, no, both-on, either_off}
use Rattle.answers.specs.Answer as A
use Rattle.answers.specs.Numbers.{accepts}
use Rattle.history.specs.World.{World, Call, mount, write, begin, sweep, finish, discard, asks}
use Rattle.history.specs.Step.{answer_to, world_after, mounted, step, writes_at, alters_at}
use Rattle.changes.specs.Discard.{discards_at}
use Rattle.drive.specs.Drive.{shape_of}
use Rattle.history.specs.History.{run, among}

-- calls after calls
pub run-append : (w : World) (a b : List Call) → run w (a ++ b) ≡ run (run w a) b
unfolding run
run-append w [] b = refl
run-append w (c ∷ a) b = run-append (step w c) a b

-- a byte laid over where the test holds stays where it doesn't
kept : (accepted inside : Bool) (x y : ℕ) → both accepted inside ≡ false → pick accepted (pick inside x y) y ≡ y
kept true true x y e = cc
kept true false x y e = refl
kept false inside x y e = refl

step_kept : (a : ℕ) (w : World) (c : Call) → alters_at a w c ≡ false → (step w c).contents a ≡ w.contents a
unfolding step world_after mounted
step_kept a w (mount any) e = refl
step_kept a w (write o bytes) e =
    kept (accepts (answer_to w (write o bytes))) (both (leb o a) (ltb a (o + length bytes))) (get_or bytes (a - o) 0) (w.contents a)
    (either_off (both (accepts (answer_to w (write o bytes))) (both (leb o a) (ltb a (o + length bytes)))) false e).0
step_kept a w (begin secret) e = refl
step_kept a w (sweep n) e = refl
step_kept a w finish e = refl
step_kept a w (discard n first count) e = no _ e refl
step_kept a w (asks q) e = refl

pub run-kept : (a : ℕ) (w : World) (calls : List Call) → among (alters_at a) w calls ≡ false → (run w calls).contents a ≡ w.contents a
unfolding run among
run-kept a w [] e = refl
run-kept a w (c ∷ calls) e =
    let q = either_off (alters_at a w c) (among (alters_at a) (step w c) calls) e in
    run-kept a (step w c) calls q.1 ∙ step_kept a w c q.0

-- a place that reads as zero, and that no accepted write covers
none_there : (b : Bool) (x : ℕ) → x ≡ 0 → pick b 0 x ≡ 0
none_there true x z = refl
none_there false x z = z

step-zero : (a : ℕ) (w : World) (c : Call) → writes_at a w c ≡ false → w.contents a ≡ 0 → (step w c).contents a ≡ 0
unfolding step world_after mounted
step-zero a w (mount any) e z = z
step-zero a w (write o bytes) e z =
    kept (accepts (answer_to w (write o bytes))) (both (leb o a) (ltb a (o + length bytes))) (get_or bytes (a - o) 0) (w.contents a) e ∙ z
step-zero a w (begin secret) e z = z
step-zero a w (sweep n) e z = z
step-zero a w finish e z = z
step-zero a w (discard n first count) e z =
    none_there (both (accepts (answer_to w (discard n first count))) (discards_at (shape_of w.drive) n first count a)) (w.contents a) z
step-zero a w (asks q) e z = z

pub run-zero : (a : ℕ) (w : World) (calls : List Call) → among (writes_at a) w calls ≡ false → w.contents a ≡ 0 → (run w calls).contents a ≡ 0
unfolding run among
run-zero a w [] e z = z
run-zero a w (c ∷ calls) e z =
    let q = either_off (writes_at a w c) (among (writes_at a) (step w c) calls) e in
    run-zero a (step w c) calls q.1 (step-zero a w c q.0 z)

-- an accepted discard leaves none
pub step_frees : (w : World) (n first count a : ℕ) → answer_to w (discard n first count) ≡ A.Accepted → discards_at (shape_of w.drive) n first count a ≡ true
    → (step w (discard n first count)).contents a ≡ 0
unfolding step world_after
step_frees w n first count a e inside = yes _ (both-on (ap accepts e) inside) refl

-- an accepted write lays its bytes
pub step-writes : (w : World) (o : ℕ) (bytes : List ℕ) (i : ℕ) → i < length bytes → answer_to w (write o bytes) ≡ A.Accepted
    → (step w (write o bytes)).contents (o + i) ≡ get_or bytes i 0
unfolding step world_after
step-writes w o bytes i h e =
    let back : o + i - o ≡ i = omega arith in
    yes _ (ap accepts e)
    (yes _ (both-on (le-leb o (o + i) (omega arith)) (lt-ltb (o + i) (o + length bytes) (omega arith))) (ap (λ (k : ℕ). get_or bytes k 0) back))
