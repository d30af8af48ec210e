use Rattle.words.proofs.OwnBytes.{le_two}
use Rattle.keys.specs.Keys.{check_of}
use Rattle.keys.proofs.check_of.Goals as goal

pub returns : goal.returns
unfolding check_of
returns c = rw (c.lettered.ensures, c.to_le_bytes.ensures, le_two c.args.epoch)
