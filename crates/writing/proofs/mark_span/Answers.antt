use Rattle.nuggets.proofs.SpanLaws.{inside, span_of-drive, span_few}
use Rattle.nuggets.specs.declared.Span.{Span}
use Rattle.drive.specs.Drive.{shape_of}
use mathlib.Core.List.{List}
use Prim.Native.Nat.{ℕ, ◌<◌}
use native.Mathlib.Omega.{arith}
use mathlib.Core.Path.{refl, sym, ◌∙◌, ap}
use Rattle.writing.proofs.StoreLaws.{room-told, marks_record, mark-start, mark-turn, mark_end}
use Rattle.records.specs.Record.{record_of}
use Rattle.writing.proofs.mark_span.Goals as goal

pub loop-n-init : goal.loop-n-init
loop-n-init c =
    let a = c.args in
    let q = c.requires in
    let span = span_of-drive a.d a.o a.len c.shape_of.ensures c.span_of-span.ensures.0 in
    let h = inside (shape_of a.d) a.o a.len q.0.limited q.1 q.2 in
    rw (ap (λ (x : Span). x.first) span) (omega (arith, h.first), q.0, refl, sym (mark-start a.d a.vol.now a.o a.len q.0))

pub mark-requires : goal.mark-requires
mark-requires c =
    let a = c.args in
    let q = c.requires in
    let l = c.loop-n in
    let low = span_few a.d c.shape_of.ensures c.span_of-span.ensures.1 in
    let in_span : l.n < a.d.n = omega (arith, c.loop-n-test.true, low) in
    let same = ap (λ (u : List ℕ). record_of (shape_of a.d) u l.n) l.invariant.3 ∙ marks_record a.d a.vol.now a.o a.len q.0 l.n in
    (l.invariant.1, in_span, room-told a.d a.vol.now l.vol a.o a.len l.n c.way_at-way.ensures same (q.3 l.n in_span))

pub loop-n-preserved : goal.loop-n-preserved
loop-n-preserved c =
    let a = c.args in
    let q = c.requires in
    let l = c.loop-n in
    let st = c.mark in
    let low = span_few a.d c.shape_of.ensures c.span_of-span.ensures.1 in (
      omega (arith, c.loop-n-test.true, low),
      record { limited = l.invariant.1.limited; size = st.auto.vol ∙ l.invariant.1.size },
      st.auto.vol ∙ l.invariant.2,
      mark-turn a.d a.vol.now a.o a.len q.0 l.n l.invariant.3 c.way_at-way.ensures st.ensures,
    )

pub returns : goal.returns
returns c =
    let a = c.args in
    let q = c.requires in
    let l = c.loop-n in
    let span = span_of-drive a.d a.o a.len c.shape_of.ensures c.span_of-span.ensures.0 in
    let past = ap (λ (x : Span). x.end) span in
    l.invariant.3 ∙ mark_end a.d a.vol.now a.o a.len q.0 l.n q.1 (omega (arith, past, c.loop-n-test.false)) l.invariant.0
