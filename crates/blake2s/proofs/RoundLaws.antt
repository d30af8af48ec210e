-- Laws of the compression's parts: the table's rule, and the chain value word by word.
use Rattle.std.proofs.Common.{◌≡◌, ℕ, zero, suc, ◌/◌, ◌%◌, ◌^◌, ◌<◌, Bool, true, ltb, List, [], ◌∷◌, ◌++◌, length, get_or, sym, ap, ◌∙◌, arith, ext_get_or, ltb-true}
use Rattle.base.specs.Pick.{pick}
use Rattle.base.specs.Lists.{tab, every}
use Rattle.base.proofs.PickLaws.{both_left, both_right}
use Rattle.base.proofs.TabLaws.{length-tab, get_or-tab}
use Rattle.blake2s.specs.Compress.{iv, vector, xor_at, Order}

abbrev pub small : ℕ → Bool
small x = ltb x 16

row_order : (s : List ℕ) → every small s ≡ true → Order s
unfolding every
row_order [] e i = omega arith
row_order (a ∷ s) e zero = ltb-true a 16 (both_left (small a) (every small s) e)
row_order (a ∷ s) e (suc i) = row_order s (both_right (small a) (every small s) e) i

-- every row of a table whose entries are all below 16 names message words
pub table_order : (t : List (List ℕ)) → every (every small) t ≡ true → (r : ℕ) → Order (get_or t r [])
unfolding every
table_order [] e r = λ i. omega arith
table_order (s ∷ t) e zero = row_order s (both_left (every small s) (every (every small) t) e)
table_order (s ∷ t) e (suc r) = table_order t (both_right (every small s) (every (every small) t) e) r

-- a list is its entries
pub entries : (n : ℕ) (l : List ℕ) → length l ≡ n → tab n (λ i. get_or l i 0) ≡ l
entries n l e =
    ext_get_or 0 (tab n (λ i. get_or l i 0)) l (length-tab n (λ i. get_or l i 0) ∙ sym e)
    (λ i h. get_or-tab n (λ j. get_or l j 0) i 0 (rw (length-tab n (λ j. get_or l j 0)) at h))

-- the vector with the count's high word u
abbrev pub vector_at : List ℕ → ℕ → ℕ → Bool → List ℕ
vector_at h t u f = let v = xor_at (xor_at (h ++ iv) 12 (t % 2 ^ 32)) 13 u in pick f (xor_at v 14 0xFFFFFFFF) v

-- the vector, from the eight words of the chain value and the halves of a count that fits
pub vector_is : (h : List ℕ) (t : ℕ) (f : Bool) → length h ≡ 8 → t < 2 ^ 64
    → vector_at (tab 8 (λ i. get_or h i 0)) t (t / 2 ^ 32) f ≡ vector h t f
unfolding vector
vector_is h t f e l =
    let high : t / 2 ^ 32 ≡ t / 2 ^ 32 % 2 ^ 32 = omega arith in
    ap (λ (z : List ℕ). vector_at z t (t / 2 ^ 32) f) (entries 8 h e) ∙ ap (λ (u : ℕ). vector_at h t u f) high
