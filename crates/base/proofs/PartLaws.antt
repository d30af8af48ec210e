-- Laws of parts and of runs of stores.
use mathlib.Core.Path.{◌≡◌, refl, ap, sym, ◌∙◌}
use mathlib.Core.List.{List, [], ◌∷◌, ◌++◌, append_assoc, append-nil}
use Prim.Native.Nat.{ℕ, zero, suc, ◌+◌, ◌-◌, ◌<◌, ◌≤◌}
use native.Mathlib.Nat.{suc-add, zero-add, add-suc, add-zero, add-sub_cancel_left, le_refl}
use native.Mathlib.Numerals.{add-one}
use native.Mathlib.Omega.{arith}
use lib.ListN.{length, get_or, take, drop, set, length-append, length-take, length-drop, drop_of_length-le, replicate}
use lib.Seq.{sets, sets-eq, take_at, drop_at, drop-drop, length-take-le, take-take, set_comm, take-set-le, drop-set-lt, get_or-take, get_or-drop, take-nil, take-add, drop-cons}
use Rattle.base.specs.Lists.{part}

pub length_part : {A : Type 0} (at n : ℕ) (l : List A) → at + n ≤ length l → length (part at n l) ≡ n
length_part at n l h = simp (length-take, length-drop) (omega arith)

pub get_or-part : {A : Type 0} (at n : ℕ) (l : List A) (i : ℕ) (z : A) → i < n → get_or (part at n l) i z ≡ get_or l (at + i) z
get_or-part at n l i z h = get_or-take n (drop at l) i z h ∙ get_or-drop at l i z

-- a part is also the end of what stands before its end
pub part-front : {A : Type 0} (at n : ℕ) (l : List A) → part at n l ≡ drop at (take (at + n) l)
part-front zero n l = rw (zero-add n)
part-front (suc at) n [] = rw (suc-add at n) (take-nil n)
part-front (suc at) n (a ∷ l) = rw (suc-add at n) (part-front at n l)

-- a part of a part
pub part-part : {A : Type 0} (a n b m : ℕ) (l : List A) → a + n ≤ m → part a n (part b m l) ≡ part (b + a) n l
part-part a n b m l h =
    rw (part-front a n (part b m l), take-take (a + n) m (drop b l) h, ← part-front a n (drop b l), drop-drop a b l)

-- what stands first, and next, in a row of lists
pub part-next : {A : Type 0} (at n : ℕ) (p vs q : List A) → length p ≡ at → length vs ≡ n → part at n (p ++ (vs ++ q)) ≡ vs
part-next at n p vs q e f = rw (drop_at p (vs ++ q) at e) (take_at vs q n f)

-- stores leave what stands before and behind them
pub take-sets : {A : Type 0} (n : ℕ) (l : List A) (at : ℕ) (vs : List A) → n ≤ at → take n (sets l at vs) ≡ take n l
take-sets n l at [] h = refl
take-sets n l at (v ∷ vs) h = take-sets n (set l at v) (suc at) vs (omega arith) ∙ take-set-le n l at v h

pub drop-sets : {A : Type 0} (n : ℕ) (l : List A) (at : ℕ) (vs : List A) → at + length vs ≤ n → drop n (sets l at vs) ≡ drop n l
drop-sets n l at [] h = refl
drop-sets n l at (v ∷ vs) h = drop-sets n (set l at v) (suc at) vs (omega arith) ∙ drop-set-lt n l at v (omega arith)

pub part-sets-above : {A : Type 0} (from n : ℕ) (l : List A) (at : ℕ) (vs : List A) → at + length vs ≤ from → part from n (sets l at vs) ≡ part from n l
part-sets-above from n l at vs h = ap (λ (z : List _). take n z) (drop-sets from l at vs h)

pub part-sets-below : {A : Type 0} (from n : ℕ) (l : List A) (at : ℕ) (vs : List A) → from + n ≤ at → part from n (sets l at vs) ≡ part from n l
part-sets-below from n l at vs h = rw (part-front from n (sets l at vs), take-sets (from + n) l at vs h) (sym (part-front from n l))

-- what was stored stands there
pub part-sets : {A : Type 0} (l : List A) (at n : ℕ) (vs : List A) → length vs ≡ n → at + n ≤ length l → part at n (sets l at vs) ≡ vs
part-sets l at n vs e h =
    let fits : at + length vs ≤ length l = rw e h in
    rw (sets-eq vs l at fits, append_assoc (take at l) vs (drop (at + length vs) l))
    (part-next at n (take at l) vs (drop (at + length vs) l) (length-take-le at l (omega arith)) e)

-- a row is stored piece by piece
pub sets-append : {A : Type 0} (l : List A) (at : ℕ) (a b : List A) (next : ℕ) → at + length a ≡ next → sets l at (a ++ b) ≡ sets (sets l at a) next b
sets-append l at [] b next e = rw (← e, add-zero at)
sets-append l at (x ∷ a) b next e = sets-append (set l at x) (suc at) a b next (omega arith)

-- a store behind a run of stores may come first
pub set-sets : {A : Type 0} (l : List A) (at : ℕ) (vs : List A) (j : ℕ) (v : A) → at + length vs ≤ j → set (sets l at vs) j v ≡ sets (set l j v) at vs
set-sets l at [] j v h = refl
set-sets l at (w ∷ vs) j v h =
    set-sets (set l at w) (suc at) vs j v (omega arith) ∙ ap (λ (z : List _). sets z (suc at) vs) (set_comm l at j w v (λ e. omega arith))

-- stores from the first place on, and of the whole
pub sets-front : {A : Type 0} (l v : List A) → length v ≤ length l → sets l 0 v ≡ v ++ drop (length v) l
sets-front l v h = sets-eq v l 0 (omega arith) ∙ rw (zero-add (length v))

pub sets-full : {A : Type 0} (l v : List A) → length v ≡ length l → sets l 0 v ≡ v
sets-full l v e = sets-front l v (omega arith) ∙ rw (drop_of_length-le l {i = length v} (omega arith)) (append-nil v)

-- two parts in a row are one part
pub part-append : {A : Type 0} (at n m next : ℕ) (l : List A) → at + n ≡ next → part at n l ++ part next m l ≡ part at (n + m) l
part-append at n m next l e = rw (← e, ← drop-drop n at l) (sym (take-add n m (drop at l)))

-- a loop that stores a list: before a turn the rest is to be stored, after it the rest less one
pub sets-next : {A : Type 0} (s from : List A) (z : A) (at i : ℕ) → i < length from
    → sets s (at + i) (drop i from) ≡ sets (set s (at + i) (get_or from i z)) (at + (i + 1)) (drop (i + 1) from)
sets-next s from z at i h = rw (drop-cons from i z h, add-one i, add-suc at i)

pub sets-done : {A : Type 0} (s from : List A) (at i : ℕ) → length from ≤ i → sets s (at + i) (drop i from) ≡ s
sets-done s from at i h = rw (drop_of_length-le from h)

-- a part that was lent and came back as vs: the run of stores
pub back : {A : Type 0} (at n : ℕ) (l vs : List A) → at + n ≤ length l → length vs ≡ n → take at l ++ (vs ++ drop n (drop at l)) ≡ sets l at vs
back at n l vs h e =
    rw (drop-drop n at l, ← e, sets-eq vs l at (rw e h)) (sym (append_assoc (take at l) vs (drop (at + length vs) l)))

-- the next field of a packed row: p stands, then out from k on; vs is stored at k
pub grows : {A : Type 0} {x : List A} (p out vs : List A) (k m : ℕ) → x ≡ p ++ drop k out → length p ≡ k → k + length vs ≡ m → m ≤ length out
    → sets x k vs ≡ (p ++ vs) ++ drop m out
grows p out vs k m e f g h =
    let room : k + length vs ≤ length (p ++ drop k out) = simp (length-append, length-drop) (omega arith) in
    rw (
      e,
      sets-eq vs (p ++ drop k out) k room,
      take_at p (drop k out) k f,
      ← drop-drop (length vs) k (p ++ drop k out),
      drop_at p (drop k out) k f,
      drop-drop (length vs) k out,
      g,
    )

-- the part from `at` to `at + k`
pub part_to : (at k : ℕ) (v : List ℕ) → part at (at + k - at) v ≡ part at k v
part_to at k v = let e : at + k - at ≡ k = omega arith in rw e

-- a part of what stands below the tree
pub part-below : (at n m : ℕ) (v w : List ℕ) → at + n ≤ m → take m w ≡ take m v → part at n v ≡ part at n w
part-below at n m v w h e =
    rw (part-front at n v, part-front at n w, ← take-take (at + n) m v h, ← take-take (at + n) m w h, e)

-- n bytes from a place on, copied over all of z
pub copied : (z v : List ℕ) (at n : ℕ) → length z ≡ n → at + n ≤ length v → sets z 0 (take (at + n - at) (drop at v)) ≡ part at n v
copied z v at n e h = rw (add-sub_cancel_left at n) (sets-full z (part at n v) (length_part at n v h ∙ sym e))

-- a byte after a run of stores
pub sets_below : (l : List ℕ) (at : ℕ) (vs : List ℕ) (i : ℕ) → i < at → get_or (sets l at vs) i 0 ≡ get_or l i 0
sets_below l at vs i h =
    sym (get_or-take at (sets l at vs) i 0 h) ∙ ap (λ (x : List ℕ). get_or x i 0) (take-sets at l at vs (le_refl at)) ∙ get_or-take at l i 0 h

pub sets-above : (l : List ℕ) (at : ℕ) (vs : List ℕ) (i : ℕ) → at + length vs ≤ i → get_or (sets l at vs) i 0 ≡ get_or l i 0
sets-above l at vs i h =
    let e : i + 0 ≡ i = omega arith in
    ap (λ (x : ℕ). get_or (sets l at vs) x 0) (sym e)
    ∙ sym (get_or-drop i (sets l at vs) 0 0)
    ∙ ap (λ (x : List ℕ). get_or x 0 0) (drop-sets i l at vs h)
    ∙ get_or-drop i l 0 0
    ∙ ap (λ (x : ℕ). get_or l x 0) e

pub sets-inside : (l : List ℕ) (at n : ℕ) (vs : List ℕ) (i : ℕ) → length vs ≡ n → at + n ≤ length l → i < n → get_or (sets l at vs) (at + i) 0 ≡ get_or vs i 0
sets-inside l at n vs i e room h =
    sym (get_or-part at n (sets l at vs) i 0 h) ∙ ap (λ (x : List ℕ). get_or x i 0) (part-sets l at n vs e room)

-- the end of a run of equal values
pub drop-replicate : {A : Type 0} (n k : ℕ) (a : A) → drop n (replicate k a) ≡ replicate (k - n) a
drop-replicate zero k a = let e : k - 0 ≡ k = omega arith in rw e
drop-replicate (suc n) zero a = let e : 0 - suc n ≡ 0 = omega arith in rw e
drop-replicate (suc n) (suc k) a = let e : suc k - suc n ≡ k - n = omega arith in rw e (drop-replicate n k a)
