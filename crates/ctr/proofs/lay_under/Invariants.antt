use Rattle.streams.proofs.LayLaws.{Left}
use Rattle.ctr.proofs.StreamLaws.{piece, onward, long-piece}
use Rattle.ctr.proofs.lay_under.Given as goal

-- A piece of four blocks a turn.
abbrev pub invariant-loop-at : goal.invariant-loop-at
invariant-loop-at l =
    Left (piece l.w l.keycount) (onward l.w l.keycount) (long-piece l.w l.keycount) l.number l.initial.d l.n l.at l.d
