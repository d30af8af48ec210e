-- Laws of `tab`: a loop that fills, or changes in place, one entry a turn or a run of entries a turn.
use mathlib.Core.Path.{◌≡◌, refl, ap, sym, ◌∙◌}
use mathlib.Core.List.{List, [], ◌∷◌, ◌++◌, append_assoc, append-nil}
use Prim.Native.Nat.{ℕ, zero, suc, ◌+◌, ◌<◌, ◌≤◌}
use native.Mathlib.Numerals.{add-one}
use native.Mathlib.Nat.{add-zero, add-suc}
use native.Mathlib.Omega.{arith}
use lib.ListN.{length, get_or, take, drop, set, length-append, drop_of_length-le, get_or-append, replicate, replicate-append-replicate}
use lib.Seq.{drop-cons, set_at, get_or_at, take_at, drop_at, drop-drop, sets, ext_get_or}
use Rattle.base.proofs.PartLaws.{sets-append, length_part, get_or-part}
use lib.Dec.{ltb}
use mathlib.Core.Bool.{true, false}
use mathlib.Core.Logic.{◌⊎◌, inl, inr}
use borrow.Author.Tests.{ltb-true, ltb-false}
use Rattle.base.proofs.PickLaws.{told}
use Rattle.base.specs.Lists.{tab, part}

pub length-tab : {A : Type 0} (n : ℕ) (f : ℕ → A) → length (tab n f) ≡ n
unfolding tab
length-tab zero f = refl
length-tab (suc n) f = length-append (tab n f) (f n ∷ []) ∙ rw (length-tab n f) (add-one n)

-- entry i is f i
pub get_or-tab : {A : Type 0} (n : ℕ) (f : ℕ → A) (i : ℕ) (d : A) → i < n → get_or (tab n f) i d ≡ f i
unfolding tab
get_or-tab zero f i d h = absurd (omega arith)
get_or-tab (suc n) f i d h = go (told (ltb i n)) (λ l. get_or-tab n f i d l)
  where
    go : (ltb i n ≡ true) ⊎ (ltb i n ≡ false) → (i < n → get_or (tab n f) i d ≡ f i) → get_or (tab n f ++ (f n ∷ [])) i d ≡ f i
    go (inl e) again =
        let l : i < n = ltb-true i n e in
        get_or-append (tab n f) (f n ∷ []) d i (rw (length-tab n f) l) ∙ again l
    go (inr e) again =
        let q : i ≡ n = omega (arith, ltb-false i n e) in
        rw q (get_or_at (tab n f) (f n) [] d n (length-tab n f))

-- equal below n
pub tab_ext : {A : Type 0} (n : ℕ) (f g : ℕ → A) → ((i : ℕ) → i < n → f i ≡ g i) → tab n f ≡ tab n g
unfolding tab
tab_ext zero f g h = refl
tab_ext (suc n) f g h = rw (tab_ext n f g (λ i l. h i (omega arith)), h n (omega arith))

-- a run of entries after a run
pub tab-add : {A : Type 0} (m n : ℕ) (f : ℕ → A) → tab (m + n) f ≡ tab m f ++ tab n (λ j. f (m + j))
unfolding tab
tab-add m zero f = rw (add-zero m) (sym (append-nil (tab m f)))
tab-add m (suc n) f = rw (add-suc m n, tab-add m n f) (append_assoc (tab m f) (tab n (λ j. f (m + j))) (f (m + n) ∷ []))

-- the same entry everywhere
pub tab_const : {A : Type 0} (n : ℕ) (a : A) → tab n (λ i. a) ≡ replicate n a
unfolding tab
tab_const zero a = refl
tab_const (suc n) a = rw (tab_const n a) (replicate-append-replicate n 1 a ∙ ap (λ (k : ℕ). replicate k a) (add-one n))

-- before the first turn
pub tab-none : {A : Type 0} (f : ℕ → A) (d : List A) → d ≡ tab 0 f ++ drop 0 d
unfolding tab
tab-none f d = refl

tab-suc : {A : Type 0} (f : ℕ → A) (d : List A) (z : A) (n : ℕ) → n < length d → set (tab n f ++ drop n d) n (f n) ≡ tab (suc n) f ++ drop (suc n) d
unfolding tab
tab-suc f d z n h =
    rw (drop-cons d n z h)
    (set_at (tab n f) (get_or d n z) (drop (suc n) d) (f n) n (length-tab n f) ∙ sym (append_assoc (tab n f) (f n ∷ []) (drop (suc n) d)))

-- a turn that stores f n at n
pub tab_more : {A : Type 0} (f : ℕ → A) (d : List A) (n : ℕ) {r : List A} {v : A} → r ≡ tab n f ++ drop n d → v ≡ f n → n < length d
    → set r n v ≡ tab (n + 1) f ++ drop (n + 1) d
tab_more f d n e q h = rw (e, q, add-one n) (tab-suc f d (f n) n h)

-- after the last turn
pub tab-all : {A : Type 0} (f : ℕ → A) (d : List A) (n m : ℕ) {r : List A} → r ≡ tab n f ++ drop n d → n ≡ m → length d ≤ m → r ≡ tab m f
tab-all f d n m e q h = e ∙ rw (q, drop_of_length-le d h) (append-nil (tab m f))

-- what the turn at n finds there, for a loop in place
pub tab-next : {A : Type 0} (f : ℕ → A) (d : List A) (n : ℕ) {r : List A} (z : A) → r ≡ tab n f ++ drop n d → n < length d → get_or r n z ≡ get_or d n z
tab-next f d n z e h = rw (e, drop-cons d n z h) (get_or_at (tab n f) (get_or d n z) (drop (suc n) d) z n (length-tab n f))

-- a turn of a loop that stores f 0, f 1, .. from a place on
pub tab-sets_more : {A : Type 0} (f : ℕ → A) (d : List A) (at i : ℕ) {r : List A} {v : A} → r ≡ sets d at (tab i f) → v ≡ f i
    → set r (at + i) v ≡ sets d at (tab (i + 1) f)
unfolding tab
tab-sets_more f d at i e q = rw (e, q, add-one i) (sym (sets-append d at (tab i f) (f i ∷ []) (at + i) (rw (length-tab i f))))

-- a turn that stores a run of n entries at m
pub tab-part : {A : Type 0} (f : ℕ → A) (d : List A) (m n : ℕ) {r z : List A} → r ≡ tab m f ++ drop m d → z ≡ tab n (λ j. f (m + j))
    → take m r ++ (z ++ drop (m + n) r) ≡ tab (m + n) f ++ drop (m + n) d
tab-part f d m n e q =
    let front : length (tab m f) ≡ m = length-tab m f in
    rw (e, q, take_at (tab m f) (drop m d) m front, ← drop-drop n m (tab m f ++ drop m d), drop_at (tab m f) (drop m d) m front, drop-drop n m d, tab-add m n f)
    (sym (append_assoc (tab m f) (tab n (λ j. f (m + j))) (drop (m + n) d)))

-- a part by its places
pub part-tab : (b n : ℕ) (l : List ℕ) → b + n ≤ length l → part b n l ≡ tab n (λ j. get_or l (b + j) 0)
part-tab b n l h =
    let long : length (part b n l) ≡ n = length_part b n l h in
    ext_get_or 0 (part b n l) (tab n (λ j. get_or l (b + j) 0)) (long ∙ sym (length-tab n (λ j. get_or l (b + j) 0))) (λ i q.
    let low : i < n = omega (arith, q, long) in
    get_or-part b n l i 0 low ∙ sym (get_or-tab n (λ j. get_or l (b + j) 0) i 0 low))
