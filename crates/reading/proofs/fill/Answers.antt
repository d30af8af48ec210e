use Rattle.reading.proofs.FillLaws.{nuggets_wide, nugget_met, walk-starts, walk_on, walk_ends, nugget-bytes, fills-none}
use Rattle.nuggets.specs.Nugget.{byte_of}
use Rattle.drive.specs.Drive.{shape_of}
use Rattle.layout.proofs.Limits.{limits, lent_small}
use Rattle.base.proofs.TabLaws.{length-tab}
use Rattle.base.specs.Lists.{tab}
use lib.ListN.{length}
use borrow.Rule.Slice.PartMut.{mid_of, mid_len, same_len_mid}
use native.Mathlib.Nat.{mul-le-mul, le_refl}
use mathlib.Core.List.{List}
use Prim.Native.Nat.{ℕ, ◌+◌, ◌-◌, ◌*◌}
use native.Mathlib.Omega.{arith}
use borrow.Author.Tests.{eqb-true}
use mathlib.Core.Path.{◌≡◌, refl, sym, ◌∙◌, ap}
use Rattle.reading.proofs.fill.Goals as goal

pub overflow_step-n : goal.overflow_step-n
overflow_step-n c = nuggets_wide c.args.d c.args.vol.now c.requires.0

pub div_ceil-n-end-requires : goal.div_ceil-n-end-requires
div_ceil-n-end-requires c = nuggets_wide c.args.d c.args.vol.now c.requires.0

pub loop-n-init : goal.loop-n-init
loop-n-init c =
    let a = c.args in
    let d = a.d in
    (le_refl _, refl, walk-starts (d.p * d.f) (nuggets_wide d a.vol.now c.requires.0) (λ i. byte_of d a.vol.now (a.o + i)) a.buf.now a.o (length a.buf.now))

pub overflow_add-n : goal.overflow_add-n
overflow_add-n c =
    let a = c.args in
    let l = c.loop-n in
    let m = limits (shape_of a.d) c.requires.0.limited in
    let met = nugget_met a.d a.vol.now a.o (a.o + length a.buf.now) l.n c.requires.0 c.requires.1 c.div_ceil-n-end.ensures c.loop-n-test.true l.invariant.0 in
    omega (arith, met.before, c.requires.1, mul-le-mul (lent_small c.requires.0).few_tags m.short, mul-le-mul m.narrow m.short)

pub overflow_cast-n : goal.overflow_cast-n
overflow_cast-n c =
    let a = c.args in
    let l = c.loop-n in
    let m = limits (shape_of a.d) c.requires.0.limited in
    let met = nugget_met a.d a.vol.now a.o (a.o + length a.buf.now) l.n c.requires.0 c.requires.1 c.div_ceil-n-end.ensures c.loop-n-test.true l.invariant.0 in
    omega (arith, met.inside, m.few)

pub nugget_of-g-requires : goal.nugget_of-g-requires
nugget_of-g-requires c =
    let a = c.args in
    let l = c.loop-n in
    let met = nugget_met a.d a.vol.now a.o (a.o + length a.buf.now) l.n c.requires.0 c.requires.1 c.div_ceil-n-end.ensures c.loop-n-test.true l.invariant.0 in
    (c.requires.0, met.inside)

pub overflow_sub-stop : goal.overflow_sub-stop
overflow_sub-stop c =
    let a = c.args in
    let l = c.loop-n in
    let met = nugget_met a.d a.vol.now a.o (a.o + length a.buf.now) l.n c.requires.0 c.requires.1 c.div_ceil-n-end.ensures c.loop-n-test.true l.invariant.0 in
    omega (arith, c.min-stop.ensures, met.after)

pub slice_bounds-fill_nugget-count : goal.slice_bounds-fill_nugget-count
slice_bounds-fill_nugget-count c =
    let a = c.args in
    let l = c.loop-n in
    let met = nugget_met a.d a.vol.now a.o (a.o + length a.buf.now) l.n c.requires.0 c.requires.1 c.div_ceil-n-end.ensures c.loop-n-test.true l.invariant.0 in
    omega (arith, c.max-start.ensures, c.min-stop.ensures, met.before, met.after)

pub slice_bounds-fill_nugget-start : goal.slice_bounds-fill_nugget-start
slice_bounds-fill_nugget-start c =
    let a = c.args in
    let l = c.loop-n in
    let met = nugget_met a.d a.vol.now a.o (a.o + length a.buf.now) l.n c.requires.0 c.requires.1 c.div_ceil-n-end.ensures c.loop-n-test.true l.invariant.0 in
    omega (arith, c.max-start.ensures, c.min-stop.ensures, met.before, met.after)

pub fill_nugget-requires : goal.fill_nugget-requires
fill_nugget-requires c =
    let a = c.args in
    let l = c.loop-n in
    let end = a.o + length a.buf.now in
    let met = nugget_met a.d a.vol.now a.o end l.n c.requires.0 c.requires.1 c.div_ceil-n-end.ensures c.loop-n-test.true l.invariant.0 in
    let at = c.max-start.result - a.o in
    let long : length (mid_of at (c.min-stop.result - a.o - at) l.buf) ≡ c.min-stop.result - c.max-start.result =
    mid_len at (c.min-stop.result - a.o) l.buf (omega (arith, c.min-stop.ensures, l.invariant.1)) ∙ omega (arith, c.max-start.ensures, c.min-stop.ensures, met.before, met.after) in
    rw (c.shape_of-s.ensures, c.nugget_of-g.ensures) (c.requires.0, met.inside, omega (arith, long, c.max-start.ensures, c.min-stop.ensures, met.before, met.after))

pub loop-n-preserved : goal.loop-n-preserved
loop-n-preserved c =
    let a = c.args in
    let d = a.d in
    let l = c.loop-n in
    let w = d.p * d.f in
    let end = a.o + length a.buf.now in
    let m = limits (shape_of d) c.requires.0.limited in
    let met = nugget_met d a.vol.now a.o end l.n c.requires.0 c.requires.1 c.div_ceil-n-end.ensures c.loop-n-test.true l.invariant.0 in
    let start = c.max-start.result in
    let stop = c.min-stop.result in
    let at = start - a.o in
    let n = stop - start in
    let long : length (mid_of at (stop - a.o - at) l.buf) ≡ n =
    mid_len at (stop - a.o) l.buf (omega (arith, c.min-stop.ensures, l.invariant.1)) ∙ omega (arith, c.max-start.ensures, c.min-stop.ensures, met.before, met.after) in
    let f : ℕ → ℕ = λ i. byte_of d a.vol.now (a.o + i) in
    let laid : c.fill_nugget.new.buf ≡ tab n (λ j. f (at + j)) =
    nugget-bytes d a.vol.now a.o at l.n (start - l.n * w) _ n (omega (arith, m.wide)) (omega (arith, c.max-start.ensures)) (omega (arith, c.max-start.ensures, c.min-stop.ensures, met.before, met.after)) long c.shape_of-s.ensures c.nugget_of-g.ensures c.fill_nugget.ensures in (
      omega (arith, l.invariant.0),
      same_len_mid at (stop - a.o - at) l.buf c.fill_nugget.new.buf (ap (λ (x : List ℕ). length x) laid ∙ length-tab n (λ j. f (at + j)) ∙ sym long) ∙ l.invariant.1,
      walk_on w met.some f a.buf.now a.o end l.n (omega arith) met.after met.before c.max-start.ensures c.min-stop.ensures l.invariant.2 laid,
    )

pub returns : goal.returns
returns c =
    let a = c.args in
    let d = a.d in
    walk_ends (d.p * d.f) (nuggets_wide d a.vol.now c.requires.0) (λ (i : ℕ). byte_of d a.vol.now (a.o + i)) a.buf.now a.o c.loop-n.n c.div_ceil-n-end.ensures c.loop-n-test.false c.loop-n.invariant.2

pub returns-then-is_empty : goal.returns-then-is_empty
returns-then-is_empty c =
    let a = c.args in
    fills-none (λ (i : ℕ). byte_of a.d a.vol.now (a.o + i)) a.buf.now (eqb-true (length a.buf.now) 0 (sym c.is_empty.ensures ∙ c.if-is_empty.true))
