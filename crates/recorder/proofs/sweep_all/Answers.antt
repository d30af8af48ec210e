use mathlib.Core.Path.{refl, sym, ◌∙◌, ◌≡◌}
use mathlib.Core.List.{List}
use Prim.Native.Nat.{suc}
use Rattle.std.proofs.Common.{arith, ℕ, ◌+◌, ◌-◌, ◌<◌, ◌≤◌}
use Rattle.drive.specs.declared.Drive.{Drive}
use Rattle.recorder.specs.Session.{holding, after_sweep, swept_from}
use Rattle.recorder.proofs.sweep_all.Goals as goal

-- a turn takes one sweep from those left, and none is left at the end
more_left : (i n : ℕ) (h : Drive) (l : List ℕ) → i < n → swept_from i (n - i) (holding h l) ≡ swept_from (i + 1) (n - (i + 1)) (after_sweep i (holding h l))
unfolding swept_from
more_left i n h l less = let e : n - i ≡ suc (n - (i + 1)) = omega (arith, less) in rw e refl

none_left : (i n : ℕ) (h : Drive) (l : List ℕ) → n ≤ i → swept_from i (n - i) (holding h l) ≡ holding h l
unfolding swept_from
none_left i n h l over = let e : n - i ≡ 0 = omega (arith, over) in rw e refl

pub loop-k-preserved : goal.loop-k-preserved
loop-k-preserved c =
    let l = c.loop-k in
    let n = c.args.n in
    let e = c.sweep_at.ensures in
    ((λ i. swept_from (l.k + 1) (n - (l.k + 1)) (holding (e.1.0 i) (e.1.1 i))) ∙ sym (more_left l.k n l.d l.vol c.loop-k-test.true) ∙ l.invariant)

pub returns : goal.returns
returns c = sym (none_left c.loop-k.k c.args.n c.loop-k.d c.loop-k.vol (omega (arith, c.loop-k-test.false))) ∙ c.loop-k.invariant
