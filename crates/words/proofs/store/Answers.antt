use Prim.Native.Nat.{◌+◌, ◌-◌}
use mathlib.Core.Path.{◌≡◌, sym, ◌∙◌}
use native.Mathlib.Omega.{arith}
use lib.ListN.{length}
use Rattle.base.specs.Lists.{part}
use Rattle.base.proofs.PartLaws.{back, length_part, sets-full}
use Rattle.words.specs.Le.{le}
use Rattle.words.proofs.LeLaws.{length-le, sets-le-next, sets-le-done}
use Rattle.words.proofs.store.Goals as goal

pub loop-b-preserved : goal.loop-b-preserved
loop-b-preserved c =
    let t = c.loop-b in
    sets-le-next t.b-items c.args.k t.b-index t.y (omega arith) ∙ t.invariant

pub returns : goal.returns
returns c =
    let t = c.loop-b in
    let a = c.args in
    let e : a.at + a.k - a.at ≡ a.k = omega arith in
    let whole : length (part a.at a.k a.s.now) ≡ a.k = length_part a.at a.k a.s.now c.requires in
    let all : t.b-items ≡ le a.k a.x =
    sym (sets-le-done t.b-items a.k t.b-index t.y (omega arith)) ∙ t.invariant ∙ rw e (sets-full (part a.at a.k a.s.now) (le a.k a.x) (length-le a.k a.x ∙ sym whole)) in
    rw (all, e) (back a.at a.k a.s.now (le a.k a.x) c.requires (length-le a.k a.x))
