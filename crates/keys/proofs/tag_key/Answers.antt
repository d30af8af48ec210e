use mathlib.Core.Path.{◌≡◌, ◌∙◌}
use Rattle.words.specs.Le.{le}
use Rattle.words.proofs.OwnBytes.{le_eight}
use Rattle.keys.specs.Keys.{tag_key}
use Rattle.keys.proofs.tag_key.Goals as goal

flake : (c : goal.After-lettered) → c.store.new.s ≡ le 2 c.args.f
unfolding le
flake c = rw (c.store.ensures, c.from.ensures)

pub returns : goal.returns
unfolding tag_key
returns c =
    c.lettered.ensures
    ∙ rw (c.letter_of-letter.ensures, c.to_le_bytes.ensures ∙ le_eight c.args.lock.keycount, flake c)
