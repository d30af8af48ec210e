-- Laws of the state: pieces join, a good state stays good, and 16 bytes at once are one turn.
use mathlib.Core.Path.{◌≡◌, refl, ap, sym, ◌∙◌}
use mathlib.Core.Bool.{Bool, true, false}
use mathlib.Core.Logic.{◌⊎◌, inl, inr}
use mathlib.Core.List.{List, [], ◌∷◌, ◌++◌}
use Prim.Native.Nat.{ℕ, zero, suc, ◌+◌, ◌-◌, ◌*◌, ◌<◌, ◌≤◌}
use native.Mathlib.Nat.{add-zero}
use native.Mathlib.Numerals.{add-one}
use native.Mathlib.Omega.{arith}
use borrow.Author.Tests.{lt-ltb, le-ltb, ltb-true, ltb-false}
use lib.Dec.{ltb, lit<}
use lib.ListN.{length, take, drop, set, length-set, length-drop}
use lib.Seq.{sets, length-sets, take-add, take_all, length-take-le}
use Rattle.base.specs.Pick.{pick}
use Rattle.base.specs.Lists.{fold, part}
use Rattle.base.proofs.FoldLaws.{fold-append}
use Rattle.base.proofs.PickLaws.{yes, no, told}
use Rattle.limbs.specs.declared.Limbs.{Limbs}
use Rattle.words.specs.Le.{num}
use Rattle.limbs.specs.Limbs.{value, limbs_of, quad, p}
use Rattle.limbs.specs.Turns.{turn, turns}
use Rattle.limbs.proofs.Digits.{limbs_below, limbs_reduced, value_limbs}
use Rattle.limbs.proofs.TurnLaws.{turn-lt}
use Rattle.poly1305.specs.declared.State.{State}
use Rattle.poly1305.specs.Poly1305.{clamp}
use Rattle.poly1305.specs.State.{zero_block, started, emptied, held, push, absorbed, GoodState}
use Rattle.base.proofs.PartLaws.{sets-full}

-- two pieces one after the other are the joined piece
pub join : (s : State) (a b : List ℕ) → absorbed (absorbed s a) b ≡ absorbed s (a ++ b)
join s a b = sym (fold-append push s a b)

pub start-good : (key : List ℕ) → GoodState (started key)
unfolding started p
start-good key = record { key = limbs_below _; sum = limbs_reduced 0 (lit< tt); pad = limbs_below _; room = lit< tt; whole = refl }

-- the limbs that start puts together
pub starts : (key : List ℕ) {r a s : Limbs} → r ≡ limbs_of (clamp (num (part 0 16 key))) → a ≡ limbs_of (quad 0 0 0 0) → s ≡ limbs_of (num (part 16 16 key))
    → record { r = r; acc = a; s = s; buf = zero_block; fill = 0 } ≡ started key
unfolding started quad
starts key e f g = rw (e, f, g)

pub emptied-good : (s : State) (a : ℕ) → GoodState s → a < p → GoodState (emptied s a)
emptied-good s a g h = record { key = g.key; sum = limbs_reduced a h; pad = g.pad; room = lit< tt; whole = refl }

-- a byte that leaves room
pub push-held : (s : State) (b : ℕ) → s.fill + 1 < 16 → push s b ≡ held s (set s.buf s.fill b) (s.fill + 1)
unfolding push
push-held s b h = yes _ (lt-ltb (s.fill + 1) 16 h) refl

-- a byte that fills the buffer
pub push-emptied : (s : State) (b : ℕ) → 16 ≤ s.fill + 1
    → push s b ≡ emptied s (turn (value s.r) (value s.acc) (set s.buf s.fill b))
unfolding push
push-emptied s b h = no _ (le-ltb (s.fill + 1) 16 h) refl

pub push-good : (s : State) (b : ℕ) → GoodState s → GoodState (push s b)
push-good s b g = go (told (ltb (s.fill + 1) 16))
  where
    go : (ltb (s.fill + 1) 16 ≡ true) ⊎ (ltb (s.fill + 1) 16 ≡ false) → GoodState (push s b)
    go (inl e) =
        let h : s.fill + 1 < 16 = ltb-true (s.fill + 1) 16 e in
        rw (push-held s b h) record { key = g.key; sum = g.sum; pad = g.pad; room = h; whole = length-set s.buf s.fill b ∙ g.whole }
    go (inr e) =
        rw (push-emptied s b (ltb-false (s.fill + 1) 16 e))
        (emptied-good s (turn (value s.r) (value s.acc) (set s.buf s.fill b)) g (turn-lt (value s.r) (value s.acc) (set s.buf s.fill b)))

pub absorbed-good : (s : State) (m : List ℕ) → GoodState s → GoodState (absorbed s m)
unfolding fold
absorbed-good s [] g = g
absorbed-good s (b ∷ m) g = absorbed-good (push s b) m (push-good s b g)

pub goes_on : (s : State) (m : List ℕ) {t : State} → GoodState s → t ≡ absorbed s m → GoodState t
goes_on s m g e = rw e (absorbed-good s m g)

either : (t : Bool) (x y z : State) → x.s ≡ z.s → y.s ≡ z.s → (pick t x y).s ≡ z.s
either true x y z e f = e
either false x y z e f = f

-- s of the key stays
push-pad : (s : State) (b : ℕ) → (push s b).s ≡ s.s
unfolding push
push-pad s b = either (ltb (s.fill + 1) 16) _ _ s refl refl

pub absorbed-pad : (s : State) (m : List ℕ) → (absorbed s m).s ≡ s.s
unfolding fold
absorbed-pad s [] = refl
absorbed-pad s (b ∷ m) = absorbed-pad (push s b) m ∙ push-pad s b

-- bytes that leave room
pub lays : (l : List ℕ) (s : State) → s.fill + length l < 16 → absorbed s l ≡ held s (sets s.buf s.fill l) (s.fill + length l)
unfolding fold
lays [] s h = rw (add-zero s.fill)
lays (b ∷ l) s h =
    let e : s.fill + 1 + length l ≡ s.fill + suc (length l) = omega arith in
    rw (push-held s b (omega arith)) (lays l (held s (set s.buf s.fill b) (s.fill + 1)) (omega arith) ∙ rw (e, add-one s.fill))

-- bytes that fill the buffer
fills : (l : List ℕ) (s : State) (b : ℕ) → s.fill + suc (length l) ≡ 16
    → absorbed s (b ∷ l) ≡ emptied s (turn (value s.r) (value s.acc) (sets s.buf s.fill (b ∷ l)))
unfolding fold
fills [] s b h = push-emptied s b (omega arith)
fills (c ∷ l) s b h =
    rw (push-held s b (omega arith)) (fills l (held s (set s.buf s.fill b) (s.fill + 1)) c (omega arith) ∙ rw (add-one s.fill))

pub filled : (l : List ℕ) (s : State) → GoodState s → s.fill + length l ≡ 16
    → absorbed s l ≡ emptied s (turn (value s.r) (value s.acc) (sets s.buf s.fill l))
filled [] s g h = absurd (omega (arith, g.room))
filled (b ∷ l) s g h = fills l s b h

-- a whole block
pub block : (s : State) (l : List ℕ) → GoodState s → s.fill ≡ 0 → length l ≡ 16 → absorbed s l ≡ emptied s (turn (value s.r) (value s.acc) l)
block s l g e h = filled l s g (omega arith) ∙ rw (e, sets-full s.buf l (h ∙ sym g.whole))

-- whole blocks
pub many : (n : ℕ) (s : State) (l : List ℕ) → GoodState s → s.fill ≡ 0 → 16 * suc n ≤ length l
    → absorbed s (take (16 * suc n) l) ≡ emptied s (turns (suc n) (value s.r) (value s.acc) l)
unfolding turns
many zero s l g e h = block s (take 16 l) g e (length-take-le 16 l h)
many (suc n) s l g e h =
    let a = turn (value s.r) (value s.acc) (take 16 l) in
    let small : a < p = turn-lt (value s.r) (value s.acc) (take 16 l) in
    let two : 16 * suc (suc n) ≡ 16 + 16 * suc n = omega arith in
    rw (
      two,
      take-add 16 (16 * suc n) l,
      fold-append push s (take 16 l) (take (16 * suc n) (drop 16 l)),
      block s (take 16 l) g e (length-take-le 16 l (omega arith)),
    )
    (many n (emptied s a) (drop 16 l) (emptied-good s a g small) refl (rw (length-drop 16 l) (omega arith)) ∙ rw (value_limbs a small))

pub run : (n : ℕ) (s : State) (l : List ℕ) → GoodState s → s.fill ≡ 0 → (n ≡ 0 → ⊥) → 16 * n ≤ length l
    → absorbed s (take (16 * n) l) ≡ emptied s (turns n (value s.r) (value s.acc) l)
run zero s l g e z h = absurd (z refl)
run (suc n) s l g e z h = many n s l g e h

-- no block
pub run_none : (n : ℕ) (s : State) (l : List ℕ) → n ≡ 0 → s ≡ absorbed s (take (16 * n) l)
unfolding fold
run_none n s l e = rw e

-- a turn with a block that m has filled
pub topped : (s : State) (m b : List ℕ) {x : Limbs} → GoodState s → s.fill + length m ≡ 16 → b ≡ sets s.buf s.fill m → x ≡ limbs_of (turns 1 (value s.r) (value s.acc) b)
    → record { r = s.r; acc = x; s = s.s; buf = zero_block; fill = 0 } ≡ absorbed s m
unfolding turns
topped s m b g h e f =
    let whole : length b ≡ 16 = ap length e ∙ length-sets s.buf s.fill m ∙ g.whole in
    rw (f, take_all 16 b (omega arith), e) (sym (filled m s g h))

-- turns with the blocks of m
pub ran : (n : ℕ) (s : State) (m : List ℕ) {x : Limbs} → GoodState s → s.fill ≡ 0 → (n ≡ 0 → ⊥) → 16 * n ≤ length m → x ≡ limbs_of (turns n (value s.r) (value s.acc) m)
    → record { r = s.r; acc = x; s = s.s; buf = zero_block; fill = 0 } ≡ absorbed s (take (16 * n) m)
ran n s m g e z h f = rw f (sym (run n s m g e z h))

-- a piece in two
pub two : (s : State) (m : List ℕ) (k : ℕ) {t u : State} → k ≤ length m → t ≡ absorbed s (take k m) → u ≡ absorbed t (part k (length m - k) m) → u ≡ absorbed s m
two s m k h e f =
    let end : k + (length m - k) ≡ length m = omega arith in
    let all : take k m ++ part k (length m - k) m ≡ m = sym (take-add k (length m - k) m) ∙ rw end (take_all (length m) m (omega arith)) in
    rw (f, e, join s (take k m) (part k (length m - k) m), all)
