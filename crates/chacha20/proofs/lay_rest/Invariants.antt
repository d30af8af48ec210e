use Rattle.chacha20.proofs.LayLaws.{Left}
use Rattle.chacha20.proofs.lay_rest.Given as goal

abbrev pub invariant-loop-at : goal.invariant-loop-at
invariant-loop-at l = Left l.fn.key l.fn.nonce l.counter l.initial.d l.s l.at l.d
