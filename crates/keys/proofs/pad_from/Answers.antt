use Prim.Native.Nat.{◌-◌}
use native.Mathlib.Omega.{arith}
use mathlib.Core.Path.{◌≡◌, refl, ◌∙◌}
use lib.ListN.{replicate}
use Rattle.keys.proofs.StreamLaws.{pad-eight, pad-rest}
use Rattle.keys.proofs.pad_from.Goals as goal

pub eight_from-requires : goal.eight_from-requires
eight_from-requires c = (c.requires.0, c.block_of-block.ensures.1)

pub returns-then-n-ge512 : goal.returns-then-n-ge512
returns-then-n-ge512 c =
    let a = c.args in
    let pre = c.requires in
    c.eight_from.ensures ∙ rw c.block_of-block.ensures.0 (pad-eight a.lock a.f a.size a.b pre.4 (omega arith))

pub returns : goal.returns
returns c =
    let a = c.args in
    let pre = c.requires in
    let n = a.size - a.b in
    let none : n - 0 ≡ n = omega arith in
    let zeros : c.clear.new.s ≡ replicate 512 0 = rw pre.0 at c.clear.ensures in
    rw (none, zeros) (pad-rest a.lock a.f a.size a.b pre.4 n refl pre.3 (omega arith) (rw (none, zeros) at c.lay_from.ensures))
