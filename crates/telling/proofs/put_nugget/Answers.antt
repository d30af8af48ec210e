use Rattle.std.proofs.Common.{refl, sym, ap, ◌∙◌, arith, rules}
use mathlib.Core.Bool.{not}
use Rattle.telling.specs.Told.{nugget_told}
use Rattle.telling.proofs.ToldLaws.{line_stands}
use Rattle.layout.specs.declared.Shape.{Shape}
use Rattle.layout.proofs.Limits.{limits}
use Rattle.records.specs.declared.Record.{Record}
use Rattle.records.specs.Record.{record_of}
use Rattle.drive.specs.Drive.{shape_of}
use Rattle.answers.specs.Numbers.{accepts}
use Rattle.line.specs.Lines.{refusal_line}
use Rattle.line.proofs.PutLaws.{put_as}
use Rattle.line.proofs.PageLaws.{puts_told}
use Rattle.pages.specs.Page.{nugget_line}
use Rattle.base.proofs.PickLaws.{yes, no}
use Rattle.telling.proofs.put_nugget.Goals as goal

pub read-r-requires : goal.read-r-requires
read-r-requires c =
    let a = c.args in
    let st = line_stands a.d a.vol.now a.n (ap accepts (sym c.requires.1) ∙ c.is_err.ensures.negation ∙ ap not c.if-is_err.false) in
    rw c.shape_of.ensures (st.shaped, st.inside)

pub put_nugget-requires : goal.put_nugget-requires
put_nugget-requires c =
    let a = c.args in
    let st = line_stands a.d a.vol.now a.n (ap accepts (sym c.requires.1) ∙ c.is_err.ensures.negation ∙ ap not c.if-is_err.false) in
    ((limits (shape_of a.d) st.shaped.limited).narrow, omega (arith, c.requires.0))

pub returns-then-is_err : goal.returns-then-is_err
unfolding nugget_told
returns-then-is_err c =
    put_as _ _ (ap refusal_line c.requires.1 ∙ sym (no _ (ap accepts (sym c.requires.1) ∙ c.is_err.ensures.negation ∙ ap not c.if-is_err.true) refl)) c.refusal_line.ensures

pub returns : goal.returns
unfolding nugget_told
returns c =
    let a = c.args in
    put_as _ _ (ap (λ (z : Record). nugget_line a.d z a.n) (c.read-r.ensures ∙ ap (λ (z : Shape). record_of z a.vol.now a.n) c.shape_of.ensures) ∙ sym (yes _ (ap accepts (sym c.requires.1) ∙ c.is_err.ensures.negation ∙ ap not c.if-is_err.false) refl)) (puts_told _ c.put_nugget.ensures (λ e. search rules))
