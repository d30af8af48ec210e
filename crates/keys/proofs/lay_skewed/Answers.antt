use Prim.Native.Nat.{◌+◌, ◌-◌, ◌≤◌}
use native.Mathlib.Nat.{div-le_self}
use native.Mathlib.Omega.{arith}
use mathlib.Core.Path.{◌≡◌}
use lib.ListN.{length}
use Rattle.keys.proofs.CipherLaws.{lawful}
use Rattle.keys.proofs.StreamLaws.{stream-bare, stream-short, stream-laid}
use borrow.Author.Rules.{rules}
use Rattle.keys.proofs.lay_skewed.Goals as goal

pub returns-then-d-m : goal.returns-then-d-m
returns-then-d-m c =
    let a = c.args in
    let pre = c.requires in
    let first = stream-bare a.lock a.n 64 c.lay_blocks.ensures in
    stream-short a.lock a.n a.d.now a.skip pre.1 (omega arith) first c.xor.ensures

pub nonzero_div-more : goal.nonzero_div-more
nonzero_div-more c = rw c.unit_of.ensures (lawful c.args.lock.cipher).some

pub overflow_cast-more : goal.overflow_cast-more
overflow_cast-more c = omega (arith, div-le_self 64 c.unit_of.result)

pub overflow_add-n : goal.overflow_add-n
overflow_add-n c = omega (arith, div-le_self 64 c.unit_of.result)

pub lay_blocks-requires-2 : goal.lay_blocks-requires-2
lay_blocks-requires-2 c = (omega (arith, div-le_self 64 c.unit_of.result, c.requires.0), search rules)

pub returns : goal.returns
returns c =
    let a = c.args in
    let pre = c.requires in
    let first = stream-bare a.lock a.n 64 c.lay_blocks.ensures in
    let all : a.skip + (64 - a.skip) ≡ 64 = omega (arith, pre.1) in
    let room : 64 - a.skip ≤ length a.d.now = omega arith in
    stream-laid a.lock a.n a.d.now a.skip (64 - a.skip) all room first c.xor-2.ensures (rw c.unit_of.ensures at c.lay_blocks-2.ensures)
