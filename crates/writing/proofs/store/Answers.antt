use Rattle.writing.proofs.StoreLaws.{room_after, all_work}
use Rattle.drive.specs.Drive.{shape_of}
use Rattle.changes.specs.Change.{advanced, settled}
use mathlib.Core.List.{List}
use Prim.Native.Nat.{ℕ}
use mathlib.Core.Path.{◌∙◌, ap}
use Rattle.writing.proofs.store.Goals as goal

pub mark_span-requires : goal.mark_span-requires
mark_span-requires g c =
    let a = c.args in
    let q = c.requires in
    rw (c.offset-o.ensures, c.len-len.ensures)
    (record { limited = q.0.limited; size = c.lay_span.auto.vol ∙ q.0.size }, q.1, g.met.S.Source.within a.new.now (shape_of a.d) q.2, room_after a.d a.vol.now (g.S.Source.offset a.new.now) (g.S.Source.bytes a.new.now) q.0 c.lay_span.ensures q.3)

pub returns : goal.returns
returns g c =
    let a = c.args in
    let q = c.requires in
    let marked = rw (c.offset-o.ensures, c.len-len.ensures) at c.mark_span.ensures in
    let tended = rw (c.offset-o.ensures, c.len-len.ensures) at c.tend_span.ensures in
    let work = all_work a.d a.vol.now (g.S.Source.offset a.new.now) (g.S.Source.bytes a.new.now) q.0 c.lay_span.ensures marked tended in
    (c.advance.ensures.0 ∙ ap (advanced a.d) work, c.advance.ensures.1 ∙ ap (λ (u : List ℕ). settled (advanced a.d u) u) work)
