use Rattle.std.proofs.Common.{◌≡◌, ◌*◌, ◌++◌, length, drop}
use Rattle.ctr.specs.Ctr.{output_blocks}
use Rattle.ctr.proofs.four_blocks.Given as goal

-- A block a turn.
abbrev pub invariant-loop-i : goal.invariant-loop-i
invariant-loop-i l = (length l.r ≡ 64) × (l.r ≡ output_blocks l.w l.keycount l.number l.i ++ drop (16 * l.i) l.initial.r)
