use Rattle.nuggets.proofs.SpanLaws.{inside, span_of-drive, span_few}
use Rattle.nuggets.specs.declared.Span.{Span}
use Rattle.drive.specs.Drive.{shape_of}
use lib.ListN.{length}
use mathlib.Core.List.{List}
use Prim.Native.Nat.{ℕ, ◌<◌}
use native.Mathlib.Omega.{arith}
use mathlib.Core.Path.{refl, sym, ◌∙◌, ap}
use Rattle.writing.proofs.StoreLaws.{room-told, laid_to_record, laid-start, laid-turn, laid_end}
use Rattle.records.specs.Record.{record_of}
use Rattle.writing.proofs.lay_span.Goals as goal

pub loop-n-init : goal.loop-n-init
loop-n-init g c =
    let a = c.args in
    let q = c.requires in
    let o = g.S.Source.offset a.new.now in
    let bytes = g.S.Source.bytes a.new.now in
    let span = rw (c.offset-o.ensures, c.len-len.ensures) at (span_of-drive a.d c.offset-o.result c.len-len.result c.shape_of.ensures c.span_of-span.ensures.0) in
    let h = inside (shape_of a.d) o (length bytes) q.0.limited q.1 (g.met.S.Source.within a.new.now (shape_of a.d) q.2) in
    rw (ap (λ (x : Span). x.first) span) (omega (arith, h.first), q.0, refl, sym (laid-start a.d a.vol.now o bytes q.0))

pub lay-requires : goal.lay-requires
lay-requires g c =
    let a = c.args in
    let q = c.requires in
    let l = c.loop-n in
    let o = g.S.Source.offset a.new.now in
    let bytes = g.S.Source.bytes a.new.now in
    let low = span_few a.d c.shape_of.ensures c.span_of-span.ensures.1 in
    let in_span : l.n < a.d.n = omega (arith, c.loop-n-test.true, low) in
    let same = ap (λ (u : List ℕ). record_of (shape_of a.d) u l.n) l.invariant.3 ∙ laid_to_record a.d a.vol.now o bytes q.0 l.n l.n l.invariant.0 in_span in
    let way = rw (c.offset-o.ensures, c.len-len.ensures) at c.way_at-way.ensures in
    (l.invariant.1, in_span, q.2, room-told a.d a.vol.now l.vol o (length bytes) l.n way same (q.3 l.n in_span))

pub loop-n-preserved : goal.loop-n-preserved
loop-n-preserved g c =
    let a = c.args in
    let q = c.requires in
    let l = c.loop-n in
    let st = c.lay in
    let low = span_few a.d c.shape_of.ensures c.span_of-span.ensures.1 in
    let way = rw (c.offset-o.ensures, c.len-len.ensures) at c.way_at-way.ensures in (
      omega (arith, c.loop-n-test.true, low),
      record { limited = l.invariant.1.limited; size = st.auto.vol ∙ l.invariant.1.size },
      st.auto.vol ∙ l.invariant.2,
      laid-turn a.d a.vol.now (g.S.Source.offset a.new.now) (g.S.Source.bytes a.new.now) q.0 l.n (omega (arith, c.loop-n-test.true, low)) l.invariant.3 way st.ensures,
    )

pub returns : goal.returns
returns g c =
    let a = c.args in
    let q = c.requires in
    let l = c.loop-n in
    let span = rw (c.offset-o.ensures, c.len-len.ensures) at (span_of-drive a.d c.offset-o.result c.len-len.result c.shape_of.ensures c.span_of-span.ensures.0) in
    let past = ap (λ (x : Span). x.end) span in
    l.invariant.3 ∙ laid_end a.d a.vol.now (g.S.Source.offset a.new.now) (g.S.Source.bytes a.new.now) q.0 l.n q.1 (omega (arith, past, c.loop-n-test.false)) l.invariant.0
