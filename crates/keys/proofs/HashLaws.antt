-- A letter and two parts, absorbed one after the other, have the keyed hash of the whole message.
use mathlib.Core.Path.{◌≡◌}
use mathlib.Core.List.{List, [], ◌∷◌, ◌++◌}
use Prim.Native.Nat.{ℕ}
use lib.ListN.{length}
use Rattle.blake2s.specs.Hash.{blake2s}
use Rattle.blake2s.specs.Stream.{started_keyed, absorbed, finished}
use Rattle.blake2s.specs.declared.State.{State}
use Rattle.blake2s.proofs.FaceLaws.{absorbed-join, absorbed-keyed-hash}

pub lettered-hash : (key a b : List ℕ) (letter : ℕ) {s t u v : State} {r : List ℕ} → length key ≡ 32 → s ≡ started_keyed key
    → t ≡ absorbed s (letter ∷ []) → u ≡ absorbed t a → v ≡ absorbed u b → r ≡ finished v → r ≡ blake2s key (letter ∷ (a ++ b))
lettered-hash key a b letter long es et eu ev er =
    let whole = started_keyed key in
    rw (er, ev, eu, et, es, absorbed-join whole (letter ∷ []) a, absorbed-join whole (letter ∷ a) b)
    (absorbed-keyed-hash key (letter ∷ (a ++ b)) long)
