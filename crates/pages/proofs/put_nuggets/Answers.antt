use Rattle.std.proofs.Common.{◌≡◌, arith}
use Rattle.drive.specs.Drive.{shape_of}
use Rattle.layout.proofs.Limits.{Limits, limits}
use Rattle.pages.proofs.PageLaws.{lines_start, lines_turn, lines_le}
use Rattle.pages.proofs.put_nuggets.Goals as goal

pub loop-n-init : goal.loop-n-init
loop-n-init c = lines_start _ _ _

pub read-r-requires : goal.read-r-requires
read-r-requires c = rw c.shape_of.ensures (c.requires.0, omega arith)

pub put_nugget-requires : goal.put_nugget-requires
put_nugget-requires c =
    let a = c.args in
    let t = c.loop-n in
    let l : Limits (shape_of a.d) = limits (shape_of a.d) c.requires.0.limited in
    (l.narrow, omega (arith, t.invariant.put.behind, t.invariant.long, lines_le a.d a.vol.now t.n l.narrow, c.requires.1))

pub loop-n-preserved : goal.loop-n-preserved
loop-n-preserved c =
    let t = c.loop-n in
    let a = c.args in
    lines_turn a.d a.vol.now t.n t.invariant c.shape_of.ensures c.read-r.ensures c.put_nugget.ensures

pub returns : goal.returns
returns c = let t = c.loop-n in let e : t.n ≡ c.args.d.n = omega arith in rw e at t.invariant
