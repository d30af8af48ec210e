use Rattle.writing.proofs.AnswerLaws.{way_is}
use Rattle.records.specs.Record.{record_of}
use Rattle.layout.specs.declared.Shape.{Shape}
use mathlib.Core.Path.{◌∙◌, ap}
use Rattle.writing.proofs.way_at.Goals as goal

pub returns : goal.returns
returns c =
    let a = c.args in
    way_is a.d a.vol.now a.o a.len a.n (c.read-r.ensures ∙ ap (λ (x : Shape). record_of x a.vol.now a.n) c.shape_of-s.ensures) c.shape_of-s.ensures c.touched-t.ensures c.way_of.ensures
