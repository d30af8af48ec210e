use mathlib.Core.Path.{ap, ◌∙◌}
use mathlib.Core.List.{List}
use Prim.Native.Nat.{ℕ}
use native.Mathlib.Omega.{arith}
use borrow.Author.Rules.{rules}
use Rattle.words.proofs.LeLaws.{owned_bytes}
use Rattle.aes.specs.Code.{state_bytes}
use Rattle.aes.proofs.StateLaws.{columns-back}
use Rattle.xts.specs.Xts.{block_by, over_blocks}
use Rattle.xts.proofs.Rows.{left_more, left-all}
use Rattle.xts.proofs.SectorCode.{blocks}
use Rattle.xts.proofs.over.Goals as goal

pub loop-j-preserved : goal.loop-j-preserved
loop-j-preserved g c =
    let s = c.loop-j in
    let turns = g.C.Direction.turns c.args.cipher.now in
    left_more (blocks turns) s.j (state_bytes s.x) s.d s.invariant (omega arith) (omega (arith, s.auto.d, c.requires))
    (c.block.ensures ∙ ap (block_by turns (state_bytes s.x)) c.taken-p.ensures) (search rules) c.copy.ensures c.times_alpha-x.ensures

pub returns : goal.returns
returns g c =
    let s = c.loop-j in
    let a = c.args in
    let known = c.well_formed.1.1.0 in
    let turns = g.C.Direction.turns a.cipher.now in
    left-all (blocks turns) s.j (state_bytes s.x) s.d s.invariant (omega arith) (omega (arith, s.auto.d, c.requires))
    ∙ ap (λ (t : List ℕ). over_blocks turns 32 t a.d.now)
    (ap state_bytes c.load-x.ensures ∙ columns-back a.t (record { long = known.1.0.1; bytes = owned_bytes a.t known.0 known.1.1 }))
