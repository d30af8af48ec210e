use mathlib.Core.Path.{◌≡◌}
use Prim.Native.Nat.{◌-◌}
use Rattle.aes.specs.Code.{state_bytes}
use Rattle.aes_back.specs.InvAes.{eq_rounds}
use Rattle.aes_back.proofs.decrypt.Given as goal

-- One round a turn.
abbrev pub invariant-loop-n : goal.invariant-loop-n
invariant-loop-n l = eq_rounds l.dw (14 - l.n) (state_bytes l.x) ≡ eq_rounds l.dw 13 (state_bytes l.initial.x)
