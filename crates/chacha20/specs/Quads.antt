-- A state as four columns, and the quarter rounds on all of them.
use Rattle.std.specs.Prelude.{ℕ, List, slice_index}
use Rattle.chacha20.specs.declared.Quads.{Quads}
use Rattle.chacha20.specs.ChaCha20.{quarter}

-- 2.3: on the columns of the state
unfoldable pub columns : List ℕ → Quads
columns s =
    let w = slice_index s in
    record {
      q0 = quarter (w 0) (w 4) (w 8) (w 12);
      q1 = quarter (w 1) (w 5) (w 9) (w 13);
      q2 = quarter (w 2) (w 6) (w 10) (w 14);
      q3 = quarter (w 3) (w 7) (w 11) (w 15);
    }

-- 2.3: on the diagonals of the state that has these columns; they are given as diagonals
unfoldable pub diagonals : Quads → Quads
diagonals q =
    record {
      q0 = quarter q.q0.a q.q1.b q.q2.c q.q3.d;
      q1 = quarter q.q1.a q.q2.b q.q3.c q.q0.d;
      q2 = quarter q.q2.a q.q3.b q.q0.c q.q1.d;
      q3 = quarter q.q3.a q.q0.b q.q1.c q.q2.d;
    }
