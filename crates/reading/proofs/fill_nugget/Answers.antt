use Rattle.base.proofs.TabLaws.{length-tab}
use Rattle.reading.proofs.FillLaws.{piece-before, piece-after, walk-starts, walk_on, walk_ends, piece_bytes}
use Rattle.reading.specs.Read.{byte_in}
use Rattle.layout.proofs.Limits.{limits}
use Rattle.base.specs.Lists.{tab}
use lib.ListN.{length}
use borrow.Rule.Slice.PartMut.{mid_of, mid_len, same_len_mid}
use native.Mathlib.Nat.{lt_of_mul-lt-mul_right, le_refl}
use mathlib.Core.List.{List}
use Prim.Native.Nat.{ℕ, ◌+◌, ◌-◌, ◌*◌, ◌<◌}
use native.Mathlib.Omega.{arith}
use mathlib.Core.Path.{◌≡◌, refl, sym, ◌∙◌, ap}
use Rattle.reading.proofs.fill_nugget.Goals as goal

pub overflow_step-f : goal.overflow_step-f
overflow_step-f c = omega (arith, (limits c.args.s c.requires.0.limited).wide)

pub div_ceil-f-end-requires : goal.div_ceil-f-end-requires
div_ceil-f-end-requires c = omega (arith, (limits c.args.s c.requires.0.limited).wide)

pub loop-f-init : goal.loop-f-init
loop-f-init c =
    let a = c.args in
    let some : 0 < a.s.f = omega (arith, (limits a.s c.requires.0.limited).wide) in
    (le_refl _, refl, walk-starts a.s.f some (λ i. byte_in a.s a.vol.now a.g (a.from + i)) a.buf.now a.from (length a.buf.now))

pub loop-f-preserved : goal.loop-f-preserved
loop-f-preserved c =
    let a = c.args in
    let s = a.s in
    let l = c.loop-f in
    let some : 0 < s.f = omega (arith, (limits s c.requires.0.limited).wide) in
    let end = a.from + length a.buf.now in
    let start = c.max-start.result in
    let stop = c.min-stop.result in
    let at = start - a.from in
    let n = stop - start in
    let before : l.f * s.f < end = piece-before s.f some end l.f c.div_ceil-f-end.ensures c.loop-f-test.true in
    let after : a.from < l.f * s.f + s.f = piece-after s.f some a.from l.f l.invariant.0 in
    let inside : l.f < s.p = lt_of_mul-lt-mul_right s.f (omega (arith, before, c.requires.2)) in
    let long : length (mid_of at (stop - a.from - at) l.buf) ≡ n =
    mid_len at (stop - a.from) l.buf (omega (arith, c.min-stop.ensures, l.invariant.1)) ∙ omega (arith, c.max-start.ensures, c.min-stop.ensures, before, after) in
    let f : ℕ → ℕ = λ i. byte_in s a.vol.now a.g (a.from + i) in
    let laid : c.piece.new.buf ≡ tab n (λ j. f (at + j)) =
    piece_bytes s a.vol.now a.g a.from at l.f (start - l.f * s.f) _ n c.requires.0 c.requires.1 inside (omega (arith, c.max-start.ensures)) (omega (arith, c.max-start.ensures, c.min-stop.ensures, before, after)) long c.piece.ensures in (
      omega (arith, l.invariant.0),
      same_len_mid at (stop - a.from - at) l.buf c.piece.new.buf (ap (λ (x : List ℕ). length x) laid ∙ length-tab n (λ j. f (at + j)) ∙ sym long) ∙ l.invariant.1,
      walk_on s.f some f a.buf.now a.from end l.f (omega arith) after before c.max-start.ensures c.min-stop.ensures l.invariant.2 laid,
    )

pub returns : goal.returns
returns c =
    let a = c.args in
    let some : 0 < a.s.f = omega (arith, (limits a.s c.requires.0.limited).wide) in
    walk_ends a.s.f some (λ (i : ℕ). byte_in a.s a.vol.now a.g (a.from + i)) a.buf.now a.from c.loop-f.f c.div_ceil-f-end.ensures c.loop-f-test.false c.loop-f.invariant.2
