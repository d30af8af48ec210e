use Rattle.relaying.proofs.RelayLaws.{piece-laid}
use Rattle.relaying.proofs.lay_piece.Goals as goal

pub returns : goal.returns
returns c =
    let a = c.args in
    piece-laid a.flake.nugget a.flake.lock a.flake.number a.flake.size a.flake.start a.at a.written.now.offset a.written.now.bytes.now a.piece.now c.requires.1 c.pad_from.ensures c.relay.ensures c.copy_from_slice.ensures.after
