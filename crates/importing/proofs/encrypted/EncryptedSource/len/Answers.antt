use mathlib.Core.Path.{sym}
use Rattle.sectors.proofs.SectorLaws.{length-decrypted}
use Rattle.importing.proofs.encrypted.EncryptedSource.len.Goals as goal

pub returns : goal.returns
returns c =
    let x = c.args.self.now in
    sym (length-decrypted x.one x.two 0 x.bytes.now x.whole)
