use Rattle.aes.specs.Code.{state_bytes}
use Rattle.xts.proofs.Rows.{Left}
use Rattle.xts.proofs.SectorCode.{blocks}
use Rattle.xts.proofs.over.Given as goal

-- One block a turn.
abbrev pub invariant-loop-j : goal.invariant-loop-j
invariant-loop-j g l = Left (blocks (g.C.Direction.turns l.cipher)) 32 (state_bytes l.initial.x) l.initial.d l.j (state_bytes l.x) l.d
