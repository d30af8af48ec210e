use Rattle.std.proofs.Common.{arith, sym, ◌∙◌, ap, rules}
use mathlib.Core.Bool.{not}
use Rattle.line.proofs.PutLaws.{put_then, put_as}
use Rattle.line.proofs.PageLaws.{puts_told}
use Rattle.sheets.proofs.SheetLaws.{volume-taken, sized_ge}
use Rattle.pages.proofs.MountLaws.{mounted-room, mounted_reach, page_refused, page_alone, page_whole}
use Rattle.pages.proofs.put_page.Goals as goal

pub returns-then-not-is_sized : goal.returns-then-not-is_sized
returns-then-not-is_sized c = put_as _ _ (page_refused c.args.input.now (sym c.is_sized.ensures ∙ c.if-not-is_sized.true)) c.refusal_line.ensures

pub mounted-m-requires : goal.mounted-m-requires
mounted-m-requires c = sized_ge c.args.input.now (sym c.is_sized.ensures ∙ c.if-not-is_sized.false)

pub slice_bounds-put_mounted-count : goal.slice_bounds-put_mounted-count
slice_bounds-put_mounted-count c = sized_ge c.args.input.now (sym c.is_sized.ensures ∙ c.if-not-is_sized.false)

pub slice_bounds-put_mounted-start : goal.slice_bounds-put_mounted-start
slice_bounds-put_mounted-start c = sized_ge c.args.input.now (sym c.is_sized.ensures ∙ c.if-not-is_sized.false)

pub slice_bounds-put_drive-count : goal.slice_bounds-put_drive-count
slice_bounds-put_drive-count c = sized_ge c.args.input.now (sym c.is_sized.ensures ∙ c.if-not-is_sized.false)

pub slice_bounds-put_drive-start : goal.slice_bounds-put_drive-start
slice_bounds-put_drive-start c = sized_ge c.args.input.now (sym c.is_sized.ensures ∙ c.if-not-is_sized.false)

pub load-requires : goal.load-requires
load-requires c = let h = sized_ge c.args.input.now (sym c.is_sized.ensures ∙ c.if-not-is_sized.false) in (omega arith, omega (arith, h))

pub returns-then-is_err : goal.returns-then-is_err
returns-then-is_err c =
    let i = c.args.input.now in
    put_as _ _ (page_alone i (sym c.is_sized.ensures ∙ c.if-not-is_sized.false) c.mounted-m.ensures (volume-taken i) (c.is_err.ensures.negation ∙ ap not c.if-is_err.true)) c.put_mounted-at.ensures

pub put_drive-requires : goal.put_drive-requires
put_drive-requires c =
    let i = c.args.input.now in
    let room = mounted-room i (sym c.is_sized.ensures ∙ c.if-not-is_sized.false) c.mounted-m.ensures (volume-taken i) (c.is_err.ensures.negation ∙ ap not c.if-is_err.false) in
    (room.0, omega (arith, room.1, mounted_reach c.mounted-m.result _ c.put_mounted-at.ensures, c.put_mounted-at.auto.out, c.requires))

pub returns : goal.returns
returns c =
    let i = c.args.input.now in
    let lines = puts_told _ c.put_drive.ensures (λ e. search rules) in
    put_as _ _ (page_whole i (sym c.is_sized.ensures ∙ c.if-not-is_sized.false) c.mounted-m.ensures (volume-taken i) c.load.ensures.0 (c.is_err.ensures.negation ∙ ap not c.if-is_err.false)) (put_then _ _ c.put_mounted-at.ensures lines)
