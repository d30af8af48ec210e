use Rattle.limbs.proofs.LaneLaws.{put_all}
use borrow.Author.Rules.{rules}
use Rattle.limbs.proofs.lanes.Lanes.put.Goals as goal

pub returns : goal.returns
returns c = rw (c.from.ensures, c.from-2.ensures, c.from-3.ensures, c.from-4.ensures, c.from-5.ensures) (put_all _ _ _ (search rules) (search rules))
