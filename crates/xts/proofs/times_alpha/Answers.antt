-- Four words, each with what the one before hands on.
use native.Mathlib.Omega.{arith}
use Rattle.xts.proofs.AlphaLaws.{next_is}
use Rattle.xts.proofs.times_alpha.Goals as goal

pub returns : goal.returns
returns c = next_is c.args.t (omega arith) (omega arith) (omega arith) (omega arith)
