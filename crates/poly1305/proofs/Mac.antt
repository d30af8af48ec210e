-- What start, absorb and finish make of a message is the tag of RFC 8439 2.5.1.
use mathlib.Core.Path.{◌≡◌, refl, ap, sym, ◌∙◌}
use mathlib.Core.Logic.{⊎_elim}
use mathlib.Core.List.{List, [], ◌∷◌, ◌++◌}
use Prim.Native.Nat.{ℕ, zero, suc, ◌+◌, ◌*◌, ◌/◌, ◌%◌, ◌^◌, ◌<◌, ◌≤◌}
use native.Mathlib.Nat.{zero-add, lt_of_lt_of_le}
use native.Mathlib.Omega.{arith}
use borrow.Author.Tests.{eq-eqb, ne_eqb, ltb-true, ltb-false}
use lib.Dec.{ltb, lit<, lit≤}
use lib.ListN.{length, take, drop, set, take-append-drop, length-drop}
use lib.Seq.{sets, take_all, take_at, length-take-le}
use Rattle.base.specs.Lists.{fold, part}
use Rattle.base.proofs.FoldLaws.{fold-append}
use Rattle.base.proofs.PartLaws.{length_part, sets-front}
use Rattle.base.proofs.PickLaws.{yes, no, told}
use Rattle.words.specs.Le.{num, Bytes}
use Rattle.words.proofs.LeLaws.{num-lt, bytes-part}
use Rattle.limbs.specs.declared.Limbs.{Limbs}
use Rattle.limbs.specs.Limbs.{value, limbs_of, p}
use Rattle.limbs.specs.Turns.{turn, turns}
use Rattle.limbs.proofs.Digits.{value_limbs}
use Rattle.limbs.proofs.TurnLaws.{turn-lt}
use Rattle.poly1305.specs.declared.State.{State}
use Rattle.poly1305.specs.Poly1305.{clamp, poly1305}
use Rattle.poly1305.specs.State.{zero_block, started, emptied, held, push, absorbed, ended, finished, GoodState}
use Rattle.poly1305.proofs.Laws.{clamp-lt, num-laid}
use Rattle.poly1305.proofs.StateLaws.{start-good, absorbed-pad, emptied-good, lays, block}

-- an empty buffer adds nothing
pub ended-empty : (s : State) → s.fill ≡ 0 → ended s ≡ value s.acc
unfolding ended
ended-empty s e = yes _ (eq-eqb s.fill 0 e) refl

-- a block that was begun is the last one
pub ended-begun : (s : State) → (s.fill ≡ 0 → ⊥) → ended s ≡ turn (value s.r) (value s.acc) (take s.fill s.buf)
unfolding ended
ended-begun s e = no _ (ne_eqb s.fill 0 e) refl

-- the last block, laid into zeros with its 1
pub ended_by : (s : State) (v : List ℕ) (x : Limbs) → GoodState s → (s.fill ≡ 0 → ⊥) → v ≡ sets zero_block 0 (take s.fill s.buf)
    → x ≡ limbs_of (value s.r * (value s.acc + num (set v s.fill 1)) % p) → value x ≡ ended s
unfolding turn
ended_by s v x g e f h =
    let l = take s.fill s.buf in
    let number : num (set v s.fill 1) ≡ num (l ++ (1 ∷ [])) =
    rw f (num-laid l s.fill (length-take-le s.fill s.buf (omega (arith, g.whole, g.room))) g.room) in
    let whole : x ≡ limbs_of (value s.r * (value s.acc + num (l ++ (1 ∷ []))) % p) = rw number at h in
    ap value whole ∙ value_limbs _ (turn-lt (value s.r) (value s.acc) l) ∙ sym (ended-begun s e)

-- the last bytes, fewer than a block
short : (s : State) (m : List ℕ) → GoodState s → s.fill ≡ 0 → 0 < length m → length m < 16 → ended (absorbed s m) ≡ turn (value s.r) (value s.acc) m
short s m g e some few =
    let n = s.fill + length m in
    let t = held s (sets s.buf s.fill m) n in
    rw (lays m s (omega arith))
    (ended-begun t (λ z. omega arith) ∙ rw (e, zero-add (length m), sets-front s.buf m (omega (arith, g.whole)), take_at m (drop (length m) s.buf) (length m) refl))

-- the turns of a whole message, from an empty buffer
along : (n : ℕ) (s : State) (m : List ℕ) → GoodState s → s.fill ≡ 0 → n ≡ (length m + 15) / 16 → ended (absorbed s m) ≡ turns n (value s.r) (value s.acc) m
unfolding fold turns
along zero s [] g e q = ended-empty s e
along zero s (b ∷ m) g e q = absurd (omega arith)
along (suc n) s m g e q =
    let a = turn (value s.r) (value s.acc) (take 16 m) in
    let small : a < p = turn-lt (value s.r) (value s.acc) (take 16 m) in
    ⊎_elim
    (λ t.
    let few : length m < 16 = ltb-true (length m) 16 t in
    let none : n ≡ 0 = omega arith in
    short s m g e (omega arith) few ∙ rw (none, take_all 16 m (omega arith)))
    (λ t.
    let much : 16 ≤ length m = ltb-false (length m) 16 t in
    let next : n ≡ (length (drop 16 m) + 15) / 16 = rw (length-drop 16 m) (omega arith) in
    let first : absorbed s m ≡ absorbed (emptied s a) (drop 16 m) =
    ap (λ (z : List ℕ). absorbed s z) (sym (take-append-drop 16 m))
    ∙ fold-append push s (take 16 m) (drop 16 m)
    ∙ ap (λ (z : State). absorbed z (drop 16 m)) (block s (take 16 m) g e (length-take-le 16 m much)) in
    rw first (along n (emptied s a) (drop 16 m) (emptied-good s a g small) refl next ∙ rw (value_limbs a small)))
    (told (ltb (length m) 16))

part-lt : (key : List ℕ) → length key ≡ 32 → Bytes key → num (part 16 16 key) < p
unfolding p
part-lt key e b =
    let whole : length (part 16 16 key) ≡ 16 = length_part 16 16 key (omega arith) in
    let bound : num (part 16 16 key) < 256 ^ 16 = rw whole at (num-lt (part 16 16 key) (bytes-part 16 16 key b)) in
    lt_of_lt_of_le bound (lit≤ tt)

-- the tag of the pieces is the tag of the message
pub mac : (key m : List ℕ) → length key ≡ 32 → Bytes key → finished (absorbed (started key) m) ≡ poly1305 key m
unfolding finished poly1305 started p
mac key m e b =
    let t = started key in
    let n = (length m + 15) / 16 in
    let r = clamp (num (part 0 16 key)) in
    let ends : ended (absorbed t m) ≡ turns n r 0 m =
    along n t m (start-good key) refl refl ∙ rw (value_limbs r (clamp-lt (num (part 0 16 key))), value_limbs 0 (lit< tt)) in
    let pad : value (absorbed t m).s ≡ num (part 16 16 key) =
    ap value (absorbed-pad t m) ∙ value_limbs (num (part 16 16 key)) (part-lt key e b) in
    rw (ends, pad)
