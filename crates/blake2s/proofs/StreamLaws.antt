-- Laws of the state under way: a piece that fits is laid whole, and a piece taken byte by byte is the same.
use Rattle.std.proofs.Common.{◌≡◌, ℕ, suc, ◌+◌, ◌-◌, ◌%◌, ◌^◌, ◌<◌, ◌≤◌, min, true, false, ltb, ◌⊎◌, List, [], ◌∷◌, ◌++◌, length, take, drop, sym, refl, ap, ◌∙◌, inl, inr, add-zero, zero-add, add-one, arith, length-drop, take-append-drop, ltb-true, le-ltb, lt-ltb}
use lib.Seq.{sets, length-take-le}
use Rattle.base.specs.Lists.{fold}
use Rattle.base.proofs.PickLaws.{yes, told}
use Rattle.base.proofs.FoldLaws.{fold-append}
use Rattle.words.specs.Le.{serialised, words_of}
use Rattle.blake2s.specs.Compress.{compress}
use Rattle.blake2s.proofs.ByteLaws.{count-mod}
use Rattle.blake2s.specs.Hash.{padded}
use Rattle.blake2s.specs.Stream.{emptied, laid_byte, push, absorbed, filled, finished}
use Rattle.blake2s.specs.declared.State.{State}

-- a piece laid whole
pub lay_is : (s : State) (m : List ℕ) → fold laid_byte s m
    ≡ record { chain = s.chain; buffer = sets s.buffer s.fill m; fill = s.fill + length m; count = s.count }
unfolding fold laid_byte
lay_is s [] = rw (add-zero s.fill)
lay_is s (a ∷ m) =
    let long : s.fill + 1 + length m ≡ s.fill + suc (length m) = omega arith in
    lay_is (laid_byte s a) m ∙ rw (long, add-one s.fill)

-- with room the state stays
pub emptied-room : (s : State) → s.fill < 64 → emptied s ≡ s
unfolding emptied
emptied-room s h = yes _ (lt-ltb _ _ h) refl

pub emptied-full : (s : State) (h : List ℕ) (t : ℕ) → 64 ≤ s.fill → t ≡ (s.count + 64) % 2 ^ 64
    → h ≡ compress s.chain (words_of 16 s.buffer) t false → record { chain = h; buffer = s.buffer; fill = 0; count = t } ≡ emptied s
unfolding emptied
emptied-full s h t l e k =
    let same : t % 2 ^ 64 ≡ (s.count + 64) % 2 ^ 64 = omega arith in
    rw (le-ltb s.fill 64 l, k, count-mod s.chain (words_of 16 s.buffer) t (s.count + 64) false same, e)

pub emptied-fill : (s : State) → (emptied s).fill < 64
unfolding emptied
emptied-fill s = go (told (ltb s.fill 64))
  where
    go : (ltb s.fill 64 ≡ true) ⊎ (ltb s.fill 64 ≡ false) → (emptied s).fill < 64
    go (inl e) = rw e (ltb-true s.fill 64 e)
    go (inr e) = rw e (omega arith)

-- a piece that fits is taken byte by byte as it is laid
pub fits : (s : State) (m : List ℕ) → s.fill + length m ≤ 64 → fold push s m ≡ fold laid_byte s m
unfolding fold push laid_byte
fits s [] h = refl
fits s (a ∷ m) h = rw (emptied-room s (omega arith)) (fits (laid_byte s a) m (omega arith))

-- the first byte finds room
pub first : (s : State) (m : List ℕ) → 0 < length m → fold push s m ≡ fold push (emptied s) m
unfolding fold push
first s [] h = absurd (omega arith)
first s (a ∷ m) h = rw (emptied-room (emptied s) (emptied-fill s))

-- the state of these parts
abbrev pub state_of : List ℕ → List ℕ → ℕ → ℕ → State
state_of h b fill count = record { chain = h; buffer = b; fill = fill; count = count }

-- no bytes, or bytes that fit
fits_or_none : (s : State) (m : List ℕ) → (0 < length m → s.fill + length m ≤ 64) → fold push s m ≡ fold laid_byte s m
unfolding fold
fits_or_none s [] h = refl
fits_or_none s (a ∷ m) h = fits s (a ∷ m) (h (omega arith))

-- the first bytes fill the buffer; where more are left, it is full
pub opened : (s : State) (m first rest b : List ℕ) (n f : ℕ) → n ≡ min (length m) (64 - s.fill) → first ≡ take n m → rest ≡ drop n m
    → b ≡ sets s.buffer s.fill first → f ≡ s.fill + length first
    → (fold push (state_of s.chain b f s.count) rest ≡ absorbed s m) × (0 < length rest → 64 ≤ f)
unfolding absorbed
opened s m first rest b n f size front back laid long =
    let few : length first ≡ n = ap length front ∙ length-take-le n m (omega arith) in
    let left : length rest ≡ length m - n = ap length back ∙ length-drop n m in
    let took : state_of s.chain b f s.count ≡ fold push s first =
    rw (laid, long) (sym (fits_or_none s first (λ h. omega arith) ∙ lay_is s first)) in
    let all : first ++ rest ≡ m = rw (front, back) (take-append-drop n m) in
    (ap (λ (z : State). fold push z rest) took ∙ sym (fold-append push s first rest) ∙ ap (λ (z : List ℕ). fold push s z) all, λ h. omega arith)

-- a turn of the loop: a full buffer is compressed, and the next block laid into it; what is left to do
pub turn : (s : State) (h b left block rest : List ℕ) (t : ℕ) → 64 ≤ s.fill → t ≡ (s.count + 64) % 2 ^ 64
    → h ≡ compress s.chain (words_of 16 s.buffer) t false → b ≡ sets s.buffer 0 block
    → left ≡ block ++ rest → 0 < length left → length block ≤ 64
    → fold push (state_of h b (length block) t) rest ≡ fold push s left
turn s h b left block rest t full count made laid cut some few =
    let u = state_of h s.buffer 0 t in
    let empty : u ≡ emptied s = emptied-full s h t full count made in
    let took : state_of h b (length block) t ≡ fold push u block = rw laid (sym (lay_is u block ∙ rw (zero-add (length block))) ∙ sym (fits u block (omega arith))) in
    rw (took, ← fold-append push u block rest, ← cut, empty) (sym (first s left some))

-- the end, step by step
pub finish_is : (s : State) (n t : ℕ) (p h r : List ℕ) → n ≡ filled s → t ≡ (s.count + n) % 2 ^ 64 → p ≡ padded (take n s.buffer)
    → h ≡ compress s.chain (words_of 16 p) t true → r ≡ serialised h → r ≡ finished s
unfolding finished
finish_is s n t p h r en et ep eh er =
    let same : t % 2 ^ 64 ≡ (s.count + n) % 2 ^ 64 = omega arith in
    rw (er, eh, ep, count-mod s.chain (words_of 16 (padded (take n s.buffer))) t (s.count + n) true same, en)
