use Rattle.words.specs.Le.{le}
use Rattle.keys.specs.Ciphers.{nonce_of}
use Rattle.keys.proofs.nonce_of.Goals as goal

pub returns : goal.returns
unfolding nonce_of le
returns c = c.store.ensures
