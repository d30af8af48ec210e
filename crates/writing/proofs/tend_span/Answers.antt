use Rattle.nuggets.proofs.SpanLaws.{inside, span_of-drive, span_few}
use Rattle.nuggets.specs.declared.Span.{Span}
use Rattle.drive.specs.Drive.{shape_of}
use native.Mathlib.Omega.{arith}
use mathlib.Core.Path.{refl, sym, ◌∙◌, ap}
use Rattle.writing.proofs.StoreLaws.{tend-start, tend-turn, tend_end}
use Rattle.writing.proofs.tend_span.Goals as goal

pub loop-n-init : goal.loop-n-init
loop-n-init c =
    let a = c.args in
    let q = c.requires in
    let span = span_of-drive a.d a.o a.len c.shape_of-s.ensures c.span_of-span.ensures.0 in
    let h = inside (shape_of a.d) a.o a.len q.0.limited q.1 q.2 in
    rw (ap (λ (x : Span). x.first) span) (omega (arith, h.first), q.0, refl, sym (tend-start a.d a.vol.now a.o a.len q.0))

pub loop-n-preserved : goal.loop-n-preserved
loop-n-preserved c =
    let a = c.args in
    let q = c.requires in
    let l = c.loop-n in
    let st = c.tend in
    let low = span_few a.d c.shape_of-s.ensures c.span_of-span.ensures.1 in (
      omega (arith, c.loop-n-test.true, low),
      record { limited = l.invariant.1.limited; size = st.auto.vol ∙ l.invariant.1.size },
      st.auto.vol ∙ l.invariant.2,
      tend-turn a.d a.vol.now a.o a.len q.0 l.n c.shape_of-s.ensures l.invariant.3 c.way_at-way.ensures st.ensures,
    )

pub returns : goal.returns
returns c =
    let a = c.args in
    let q = c.requires in
    let l = c.loop-n in
    let span = span_of-drive a.d a.o a.len c.shape_of-s.ensures c.span_of-span.ensures.0 in
    let past = ap (λ (x : Span). x.end) span in
    l.invariant.3 ∙ tend_end a.d a.vol.now a.o a.len q.0 l.n q.1 (omega (arith, past, c.loop-n-test.false)) l.invariant.0
