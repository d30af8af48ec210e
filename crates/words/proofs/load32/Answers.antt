use native.Mathlib.Omega.{arith}
use Rattle.words.proofs.LeLaws.{four-num}
use Rattle.words.proofs.load32.Goals as goal

pub returns : goal.returns
returns c = omega (arith, c.from_le_bytes.ensures, four-num c.args.s.now c.args.at c.requires)
