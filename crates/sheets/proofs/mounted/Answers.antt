use Rattle.sheets.proofs.SheetLaws.{volume-taken, mounted_is}
use Rattle.sheets.proofs.mounted.Goals as goal

pub returns : goal.returns
returns c =
    let i = c.args.input.now in
    mounted_is i (volume-taken i) c.taken-present.ensures c.taken-old.ensures c.load-outside.ensures.0 c.mount.ensures
