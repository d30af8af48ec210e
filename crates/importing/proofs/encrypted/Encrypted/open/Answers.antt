use Rattle.importing.proofs.WindowLaws.{opened}
use Rattle.importing.proofs.encrypted.Encrypted.open.Goals as goal

pub returns : goal.returns
returns c =
    let a = c.args in
    let q = c.requires in
    opened a.self.now.one a.self.now.two a.self.now.bytes.now a.first a.scratch.now q.0 q.1 c.copy_from_slice.ensures.after c.decrypt.ensures
