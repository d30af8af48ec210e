-- Four words, one after the other.
use mathlib.Core.Path.{refl}
use Rattle.aes.proofs.StateLaws.{stored}
use Rattle.aes.proofs.bytes.Goals as goal

pub returns : goal.returns
returns c =
    stored _ c.args.s refl c.store32.ensures c.store32-2.ensures c.store32-3.ensures c.store32-4.ensures
