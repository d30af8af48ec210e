use Rattle.std.proofs.Common.{◌≡◌}
use Rattle.chacha20.specs.ChaCha20.{double_rounds}
use Rattle.chacha20.proofs.twenty_rounds.Given as goal

abbrev pub invariant-loop : goal.invariant-loop
invariant-loop l = l.w ≡ double_rounds l.counter l.initial.w
