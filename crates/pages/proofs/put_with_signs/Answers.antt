use Rattle.std.proofs.Common.{◌≡◌, arith}
use Rattle.pages.proofs.PageLaws.{signs_start, signs_turn, signs_le}
use Rattle.pages.proofs.put_with_signs.Goals as goal

pub loop-f-init : goal.loop-f-init
loop-f-init c = signs_start _ _

pub put_flake-requires : goal.put_flake-requires
put_flake-requires c = let t = c.loop-f in omega (arith, t.invariant.put.behind, t.invariant.long, signs_le t.f c.args.journal (omega arith), c.requires.1)

pub loop-f-preserved : goal.loop-f-preserved
loop-f-preserved c = let t = c.loop-f in signs_turn t.f c.args.journal t.invariant c.put_flake.ensures

pub returns : goal.returns
returns c = let t = c.loop-f in let e : t.f ≡ c.args.p = omega arith in rw e at t.invariant
