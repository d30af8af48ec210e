use native.Mathlib.Omega.{arith}
use Rattle.aes.proofs.KeyLaws.{grown-none, grown_more, grown-all}
use Prim.Native.Nat.{◌-◌}
use Rattle.aes.proofs.expand.Goals as goal

pub loop-i-init : goal.loop-i-init
loop-i-init c = grown-none _

pub loop-i-preserved : goal.loop-i-preserved
loop-i-preserved c = grown_more c.loop-i.w c.loop-i.i (omega arith) c.loop-i.invariant (omega arith) c.temp_at.ensures

pub returns : goal.returns
returns c = grown-all c.args.key (c.loop-i.i - 8) c.loop-i.invariant (omega arith) c.key_words-w.ensures
