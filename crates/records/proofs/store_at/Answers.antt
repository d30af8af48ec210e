use mathlib.Core.Path.{ap, ◌∙◌}
use mathlib.Core.List.{List}
use Prim.Native.Nat.{ℕ}
use native.Mathlib.Omega.{arith}
use lib.ListN.{replicate, length-replicate}
use lib.Seq.{sets}
use Rattle.layout.proofs.Limits.{width_ge, width-le}
use Rattle.records.proofs.RecordLaws.{record_made}
use Rattle.records.proofs.store_at.Goals as goal

pub overflow_sub-width : goal.overflow_sub-width
overflow_sub-width c = omega (arith, c.width_of-width.ensures, width_ge c.args.s, width-le c.args.s)

pub store-requires-3 : goal.store-requires-3
store-requires-3 c = omega (arith, c.width_of-width.ensures, width_ge c.args.s, width-le c.args.s)

pub overflow_sub-width-2 : goal.overflow_sub-width-2
overflow_sub-width-2 c = omega (arith, c.width_of-width.ensures, width_ge c.args.s, width-le c.args.s)

pub store-requires-4 : goal.store-requires-4
store-requires-4 c = omega (arith, c.width_of-width.ensures, width_ge c.args.s, width-le c.args.s)

pub slice_bounds-copy-end : goal.slice_bounds-copy-end
slice_bounds-copy-end c = omega (arith, c.width_of-width.ensures, width_ge c.args.s, width-le c.args.s)

pub returns : goal.returns
returns c =
    let a = c.args in
    let made = record_made a.s a.r (replicate 26 0) (length-replicate {A = ℕ} 26 0) c.width_of-width.ensures c.store.ensures c.store-2.ensures c.store-3.ensures (rw c.from.ensures at c.store-4.ensures) in
    c.copy.ensures ∙ ap (λ (x : List ℕ). sets a.vol.now a.at x) made
