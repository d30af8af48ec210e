use Prim.Native.Nat.{◌-◌}
use Rattle.aes.proofs.KeyLaws.{Grown}
use Rattle.aes.proofs.expand.Given as goal

-- A word a turn.
abbrev pub invariant-loop-i : goal.invariant-loop-i
invariant-loop-i l = Grown l.initial.w l.w (l.i - 8)
