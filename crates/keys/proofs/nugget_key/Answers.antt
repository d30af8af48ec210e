use Rattle.words.proofs.OwnBytes.{le_four}
use Rattle.keys.specs.Keys.{nugget_key}
use Rattle.keys.proofs.nugget_key.Goals as goal

pub returns : goal.returns
unfolding nugget_key
returns c = rw (c.lettered.ensures, c.to_le_bytes.ensures, le_four c.args.n)
