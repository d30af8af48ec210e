use Prim.Native.Nat.{◌+◌, ◌-◌}
use Rattle.nuggets.proofs.SpanLaws.{inside, span_is}
use Rattle.layout.proofs.Places.{spot_is}
use Rattle.layout.specs.declared.Spot.{Spot}
use native.Mathlib.Omega.{arith}
use mathlib.Core.Path.{ap, refl}
use Rattle.nuggets.proofs.span_of.Goals as goal

pub overflow_add-o : goal.overflow_add-o
overflow_add-o c =
    let a = c.args in
    let q = c.requires in
    omega (arith, q.2, (inside a.s a.o a.len q.0 q.1 q.2).small)

pub overflow_cast-result : goal.overflow_cast-result
overflow_cast-result c =
    let a = c.args in
    let q = c.requires in
    let h = inside a.s a.o a.len q.0 q.1 q.2 in
    omega (arith, ap (λ (x : Spot). x.nugget) (spot_is a.s a.o c.spot_of-first.ensures refl q.0), h.first, h.few)

pub overflow_add-result : goal.overflow_add-result
overflow_add-result c =
    let a = c.args in
    let q = c.requires in
    let h = inside a.s a.o a.len q.0 q.1 q.2 in
    omega (arith, ap (λ (x : Spot). x.nugget) (spot_is a.s (a.o + (a.len - 1)) c.spot_of-last.ensures refl q.0), h.last, h.few)

pub overflow_cast-result-2 : goal.overflow_cast-result-2
overflow_cast-result-2 c =
    let a = c.args in
    let q = c.requires in
    let h = inside a.s a.o a.len q.0 q.1 q.2 in
    omega (arith, ap (λ (x : Spot). x.nugget) (spot_is a.s (a.o + (a.len - 1)) c.spot_of-last.ensures refl q.0), h.last, h.few)

pub returns : goal.returns
returns c =
    let a = c.args in
    let q = c.requires in
    let h = inside a.s a.o a.len q.0 q.1 q.2 in
    let last = spot_is a.s (a.o + (a.len - 1)) c.spot_of-last.ensures refl q.0 in
    (span_is a.s a.o a.len (spot_is a.s a.o c.spot_of-first.ensures refl q.0) last, omega (arith, ap (λ (x : Spot). x.nugget) last, h.last))
