-- Words stored one behind the other, each lowest byte first.
use Rattle.std.proofs.Common.{◌≡◌, ℕ, suc, ◌+◌, ◌*◌, ◌<◌, ◌≤◌, List, length, get_or, drop, sym, ◌∙◌, append-nil, add-one, arith, drop_of_length-le, drop-cons}
use lib.Seq.{sets, sets-eq}
use Rattle.words.specs.Le.{le, serialised}
use Rattle.words.proofs.LeLaws.{length-serialised}

-- a turn of the loop that stores the words: what is left to do
pub serial_more : (h r : List ℕ) (i : ℕ) → i < length h
    → sets (sets r (4 * i) (le 4 (get_or h i 0))) (4 * (i + 1)) (serialised (drop (i + 1) h)) ≡ sets r (4 * i) (serialised (drop i h))
unfolding serialised le
serial_more h r i l =
    let next : 4 * (i + 1) ≡ suc (suc (suc (suc (4 * i)))) = omega arith in
    rw (drop-cons h i 0 l, next, add-one i)

pub serial_all : (h r out : List ℕ) (i : ℕ) → sets r (4 * i) (serialised (drop i h)) ≡ sets out 0 (serialised h) → length h ≤ i → length out ≡ 4 * length h
    → r ≡ serialised h
unfolding serialised
serial_all h r out i e l n =
    let long : length (serialised h) ≡ length out = length-serialised h ∙ sym n in
    rw (drop_of_length-le h l) at e
    ∙ sets-eq (serialised h) out 0 (omega arith)
    ∙ rw (drop_of_length-le out {i = 0 + length (serialised h)} (omega arith)) (append-nil (serialised h))
