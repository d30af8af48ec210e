use mathlib.Core.Path.{◌∙◌}
use Prim.Native.Nat.{◌+◌, ◌-◌, ◌*◌, ◌<◌}
use native.Mathlib.Omega.{arith}
use Rattle.layout.proofs.Limits.{lent_small}
use Rattle.nodes.proofs.HashLaws.{letter_nugget}
use Rattle.twins.proofs.MessageLaws.{node_long_lem, record_long, tags-long}
use Rattle.twins.proofs.StepLaws.{inner_is, leaf_is, start-long, laid_message}
use Rattle.twins.proofs.lay_message.Goals as goal

pub overflow_cast-first : goal.overflow_cast-first
overflow_cast-first c = omega (arith, c.leaves_of-first.ensures, (lent_small c.requires.0).few_leaves)

pub overflow_mul-i : goal.overflow_mul-i
overflow_mul-i c = omega (arith, (lent_small c.requires.0).few_leaves, c.leaves_of-first.ensures)

pub overflow_mul-i-then-i-first : goal.overflow_mul-i-then-i-first
overflow_mul-i-then-i-first c = omega (arith, (lent_small c.requires.0).few_leaves, c.leaves_of-first.ensures)

pub overflow_add-i : goal.overflow_add-i
overflow_add-i c = omega (arith, (lent_small c.requires.0).few_leaves, c.leaves_of-first.ensures)

pub lay-requires : goal.lay-requires
lay-requires c =
    let a = c.args in
    let l = c.requires.0 in
    rw (c.node_bytes.ensures, c.node_bytes-then-i-first.ensures)
    (omega (arith, node_long_lem a.s a.vol.now l (2 * a.i) (omega (arith, c.leaves_of-first.ensures)), node_long_lem a.s a.vol.now l (2 * a.i + 1) (omega (arith, c.leaves_of-first.ensures)), c.requires.3))

pub returns-then-i-first : goal.returns-then-i-first
returns-then-i-first c =
    let a = c.args in
    laid_message a.out.now _ (inner_is a.s a.vol.now a.i (omega (arith, c.leaves_of-first.ensures)) c.node_bytes.ensures c.node_bytes-then-i-first.ensures) c.lay.ensures

pub lay-requires-2 : goal.lay-requires-2
lay-requires-2 c =
    let a = c.args in
    let l = c.requires.0 in
    let q = lent_small l in
    let n : a.i - c.leaves_of-first.result < a.s.n = omega (arith, c.leaves_of-first.ensures, c.requires.2) in
    let first = start-long c.store.new.s (a.i - c.leaves_of-first.result) (c.store.ensures ∙ rw c.from.ensures (letter_nugget _)) in
    rw (c.record_bytes.ensures, c.tag_bytes.ensures)
    (omega (arith, first, record_long a.s a.vol.now l _ n, tags-long a.s a.vol.now l _ n, q.narrow_record, q.few_flakes, c.requires.3))

pub returns : goal.returns
returns c =
    let a = c.args in
    let first = c.leaves_of-first in
    laid_message a.out.now _
    (leaf_is a.s a.vol.now a.i first.ensures c.if-i-first.false (c.store.ensures ∙ rw c.from.ensures (letter_nugget _)) c.record_bytes.ensures c.tag_bytes.ensures)
    c.lay-2.ensures
