use Prim.Native.Nat.{◌+◌, ◌/◌}
use lib.ListN.{length}
use Rattle.xts.specs.Xts.{sector_by}
use Rattle.xts.proofs.Rows.{Left}
use Rattle.xts.proofs.SectorCode.{sectors}
use Rattle.sectors.proofs.under.Given as goal

-- One sector a turn.
abbrev pub invariant-loop-i : goal.invariant-loop-i
invariant-loop-i g l =
    Left (sectors (sector_by (g.C.Direction.turns l.cipher) l.tweaks.words.now)) (length l.initial.d / 512) l.first l.initial.d l.i (l.first + l.i) l.d
