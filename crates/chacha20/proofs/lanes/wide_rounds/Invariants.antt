use Rattle.std.proofs.Common.{◌≡◌, length}
use Rattle.chacha20.specs.ChaCha20.{double_rounds}
use Rattle.chacha20.specs.Lanes.{Each}
use Rattle.chacha20.proofs.lanes.wide_rounds.Given as goal

abbrev pub invariant-loop : goal.invariant-loop
invariant-loop l = (length l.w ≡ 128) × Each (double_rounds l.counter) l.initial.w l.w
