use Rattle.std.proofs.Common.{sym, ◌∙◌, refl}
use Rattle.line.proofs.PutLaws.{put_as}
use Rattle.base.proofs.PickLaws.{yes, no}
use Rattle.sheets.specs.Sheet.{sheet_line}
use Rattle.sheets.proofs.SheetLaws.{volume-taken, mounted-told, sized_ge}
use Rattle.sheets.proofs.put_line.Goals as goal

pub returns-then-not-is_sized : goal.returns-then-not-is_sized
unfolding sheet_line
returns-then-not-is_sized c = put_as _ _ (sym (no _ (sym c.is_sized.ensures ∙ c.if-not-is_sized.true) refl)) c.refusal_line.ensures

pub mounted-requires : goal.mounted-requires
mounted-requires c = sized_ge c.args.input.now (sym c.is_sized.ensures ∙ c.if-not-is_sized.false)

pub returns : goal.returns
unfolding sheet_line
returns c =
    let i = c.args.input.now in
    put_as _ _ (mounted-told i c.mounted.ensures (volume-taken i) ∙ sym (yes _ (sym c.is_sized.ensures ∙ c.if-not-is_sized.false) refl)) c.put_mounted.ensures

pub slice_bounds-put_mounted-count : goal.slice_bounds-put_mounted-count
slice_bounds-put_mounted-count c = sized_ge c.args.input.now (sym c.is_sized.ensures ∙ c.if-not-is_sized.false)

pub slice_bounds-put_mounted-start : goal.slice_bounds-put_mounted-start
slice_bounds-put_mounted-start c = sized_ge c.args.input.now (sym c.is_sized.ensures ∙ c.if-not-is_sized.false)
