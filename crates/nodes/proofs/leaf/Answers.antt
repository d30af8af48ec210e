use mathlib.Core.Path.{◌∙◌}
use Prim.Native.Nat.{◌*◌}
use native.Mathlib.Omega.{arith}
use Rattle.layout.proofs.Limits.{inside, lent_small}
use Rattle.layout.proofs.Places.{record_inside, record_room}
use Rattle.nodes.proofs.Bounds.{tags-inside}
use Rattle.nodes.proofs.HashLaws.{letter_nugget, hashed, leaf_is}
use Rattle.nodes.proofs.leaf.Goals as goal

pub overflow_add-record_end : goal.overflow_add-record_end
overflow_add-record_end c =
    let q = lent_small c.requires.0 in
    omega (arith, c.width_of.ensures, c.record_at-record.ensures, q.few_records, q.narrow_record, record_inside c.args.s c.args.n c.requires.1)

pub overflow_add-tags_end : goal.overflow_add-tags_end
overflow_add-tags_end c =
    let a = c.args in
    let l = c.requires.0 in
    let q = lent_small l in
    omega (arith, q.few_tags, q.few_records, tags-inside a.s a.n c.requires.1, c.tag_at-tags.ensures ∙ inside a.s l.limited)

-- the record and the tags stand in the volume
pub slice_bounds-absorb-end-2 : goal.slice_bounds-absorb-end-2
slice_bounds-absorb-end-2 c =
    omega (arith, record_room c.args.n c.requires.0 c.requires.1, c.record_at-record.ensures, c.width_of.ensures)

pub slice_bounds-absorb-end-3 : goal.slice_bounds-absorb-end-3
slice_bounds-absorb-end-3 c =
    let a = c.args in
    let l = c.requires.0 in
    omega (arith, l.size, tags-inside a.s a.n c.requires.1, c.tag_at-tags.ensures ∙ inside a.s l.limited)

pub returns : goal.returns
returns c =
    let a = c.args in
    let l = c.requires.0 in
    let v = a.vol.now in
    let st = c.store in
    let at = c.record_at-record in
    let to = c.tag_at-tags in
    let width = c.width_of in
    leaf_is a.s v st.new.s a.n (st.ensures ∙ rw c.from.ensures (letter_nugget a.n)) at.ensures width.ensures (to.ensures ∙ inside a.s l.limited)
    (hashed v st.new.s at.result width.result to.result (16 * a.s.p) c.start.ensures c.absorb-a.ensures c.absorb-b.ensures c.absorb-c.ensures c.finish.ensures)
