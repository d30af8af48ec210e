use mathlib.Core.Path.{◌≡◌}
use Prim.Native.Nat.{◌-◌}
use Rattle.aes.specs.Aes.{rounds}
use Rattle.aes.specs.Code.{state_bytes}
use Rattle.aes.proofs.encrypt.Given as goal

-- One round a turn.
abbrev pub invariant-loop-n : goal.invariant-loop-n
invariant-loop-n l = state_bytes l.x ≡ rounds l.w (l.n - 1) (state_bytes l.initial.x)
