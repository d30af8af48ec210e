-- Laws of the xor of byte lists.
use mathlib.Core.Path.{◌≡◌, refl, ap, ap₂, sym, ◌∙◌}
use mathlib.Core.List.{List, [], ◌∷◌, ◌++◌}
use Prim.Native.Nat.{ℕ, zero, suc, ◌+◌, ◌*◌, ◌/◌, ◌%◌, ◌<◌, ◌≤◌}
use native.Mathlib.Nat.{le_of_suc-le-suc}
use native.Mathlib.Omega.{arith}
use lib.ListN.{length, get_or, drop, take, take-append-drop}
use lib.Seq.{ext_get_or, get_or-drop, length-take-le}
use lib.Bits.{bit_xor, xor_step, xor_self, differ, xor_zero_r}
use lib.Arith.{bin_ind}
use Rattle.base.specs.Lists.{tab, part}
use Rattle.base.proofs.TabLaws.{length-tab, get_or-tab, tab_ext}
use Rattle.words.specs.Xor.{xorl}
use Rattle.base.proofs.PartLaws.{length_part, get_or-part}

pub length-xorl : (d k : List ℕ) → length (xorl d k) ≡ length d
unfolding xorl
length-xorl [] k = refl
length-xorl (a ∷ d) [] = refl
length-xorl (a ∷ d) (b ∷ k) = ap suc (length-xorl d k)

pub get_or-xorl : (d k : List ℕ) (i : ℕ) → i < length d → get_or (xorl d k) i 0 ≡ bit_xor (get_or d i 0) (get_or k i 0)
unfolding xorl
get_or-xorl [] k i h = absurd (omega arith)
get_or-xorl (a ∷ d) [] zero h = sym (xor_zero_r a)
get_or-xorl (a ∷ d) [] (suc i) h = sym (xor_zero_r (get_or d i 0))
get_or-xorl (a ∷ d) (b ∷ k) zero h = refl
get_or-xorl (a ∷ d) (b ∷ k) (suc i) h = get_or-xorl d k i (le_of_suc-le-suc h)

-- a loop over the places makes it
pub xorl-tab : (d k : List ℕ) → xorl d k ≡ tab (length d) (λ i. bit_xor (get_or d i 0) (get_or k i 0))
xorl-tab d k =
    ext_get_or 0 (xorl d k) (tab (length d) (λ i. bit_xor (get_or d i 0) (get_or k i 0))) (length-xorl d k ∙ sym (length-tab (length d) (λ i. bit_xor (get_or d i 0) (get_or k i 0))))
    (λ i h. let l : i < length d = rw (length-xorl d k) at h in
    get_or-xorl d k i l ∙ sym (get_or-tab (length d) (λ j. bit_xor (get_or d j 0) (get_or k j 0)) i 0 l))

-- pieces of one length are laid one by one
pub xorl-append : (a b k l : List ℕ) → length a ≡ length k → xorl (a ++ b) (k ++ l) ≡ xorl a k ++ xorl b l
unfolding xorl
xorl-append [] b [] l e = refl
xorl-append [] b (y ∷ k) l e = absurd (omega arith)
xorl-append (x ∷ a) b [] l e = absurd (omega arith)
xorl-append (x ∷ a) b (y ∷ k) l e = ap (λ (z : List ℕ). bit_xor x y ∷ z) (xorl-append a b k l (omega arith))

-- what stands past the end of d doesn't matter
pub xorl-front : (d k l : List ℕ) → length d ≤ length k → xorl d (k ++ l) ≡ xorl d k
unfolding xorl
xorl-front [] k l h = refl
xorl-front (a ∷ d) [] l h = absurd (omega arith)
xorl-front (a ∷ d) (b ∷ k) l h = ap (λ (z : List ℕ). bit_xor a b ∷ z) (xorl-front d k l (le_of_suc-le-suc h))

-- xor of single digits joins in any order
differ_assoc : (x y z : ℕ) → x < 2 → y < 2 → z < 2 → differ (differ x y) z ≡ differ x (differ y z)
differ_assoc zero y z a b c = refl
differ_assoc (suc zero) zero z a b c = refl
differ_assoc (suc zero) (suc zero) zero a b c = refl
differ_assoc (suc zero) (suc zero) (suc zero) a b c = refl
differ_assoc (suc zero) (suc zero) (suc (suc z)) a b c = absurd (omega arith)
differ_assoc (suc zero) (suc (suc y)) z a b c = absurd (omega arith)
differ_assoc (suc (suc x)) y z a b c = absurd (omega arith)

differ-lt : (x y : ℕ) → x < 2 → y < 2 → differ x y < 2
differ-lt zero y a b = b
differ-lt (suc zero) zero a b = omega arith
differ-lt (suc zero) (suc zero) a b = omega arith
differ-lt (suc zero) (suc (suc y)) a b = absurd (omega arith)
differ-lt (suc (suc x)) y a b = absurd (omega arith)

xor-half : (a b : ℕ) → bit_xor a b / 2 ≡ bit_xor (a / 2) (b / 2)
xor-half a b = rw (xor_step a b) (omega (arith, differ-lt (a % 2) (b % 2) (omega arith) (omega arith)))

xor_odd : (a b : ℕ) → bit_xor a b % 2 ≡ differ (a % 2) (b % 2)
xor_odd a b = rw (xor_step a b) (omega (arith, differ-lt (a % 2) (b % 2) (omega arith) (omega arith)))

-- xor joins in any order
pub xor_assoc : (a b c : ℕ) → bit_xor (bit_xor a b) c ≡ bit_xor a (bit_xor b c)
xor_assoc =
    bin_ind (λ (n : ℕ). (b c : ℕ) → bit_xor (bit_xor n b) c ≡ bit_xor n (bit_xor b c)) (λ b c. refl)
    (λ n ih b c.
    xor_step (bit_xor n b) c
    ∙ ap₂ (λ (x y : ℕ). bit_xor x (c / 2) * 2 + differ y (c % 2)) (xor-half n b) (xor_odd n b)
    ∙ ap₂ (λ (x y : ℕ). x * 2 + y) (ih (b / 2) (c / 2)) (differ_assoc (n % 2) (b % 2) (c % 2) (omega arith) (omega arith) (omega arith))
    ∙ sym (ap₂ (λ (x y : ℕ). bit_xor (n / 2) x * 2 + differ (n % 2) y) (xor-half b c) (xor_odd b c))
    ∙ sym (xor_step n (bit_xor b c)))

-- laid twice, a byte is itself again
pub xor-back : (a b : ℕ) → bit_xor (bit_xor a b) b ≡ a
xor-back a b = xor_assoc a b b ∙ rw (xor_self b) (xor_zero_r a)

-- laid twice, the bytes are themselves again
pub xorl-back : (d k : List ℕ) → xorl (xorl d k) k ≡ d
unfolding xorl
xorl-back [] k = refl
xorl-back (a ∷ d) [] = refl
xorl-back (a ∷ d) (b ∷ k) = rw (xor-back a b, xorl-back d k)

-- what is laid over d matters as far as d reaches
pub xorl_ext : (d k l : List ℕ) → ((i : ℕ) → i < length d → get_or k i 0 ≡ get_or l i 0) → xorl d k ≡ xorl d l
xorl_ext d k l h =
    xorl-tab d k
    ∙ tab_ext (length d) (λ i. bit_xor (get_or d i 0) (get_or k i 0)) (λ i. bit_xor (get_or d i 0) (get_or l i 0)) (λ i q. ap (λ (x : ℕ). bit_xor (get_or d i 0) x) (h i q))
    ∙ sym (xorl-tab d l)

-- a part of what is laid is the part with its own piece laid over it
pub xorl-part : (b n : ℕ) (d k : List ℕ) → b + n ≤ length d → part b n (xorl d k) ≡ xorl (part b n d) (drop b k)
xorl-part b n d k h =
    let room : b + n ≤ length (xorl d k) = rw (length-xorl d k) h in
    let long : length (part b n (xorl d k)) ≡ n = length_part b n (xorl d k) room in
    let longer : length (part b n d) ≡ n = length_part b n d h in
    ext_get_or 0 (part b n (xorl d k)) (xorl (part b n d) (drop b k)) (long ∙ sym (length-xorl (part b n d) (drop b k) ∙ longer)) (λ i q.
    let low : i < n = omega (arith, q, long) in
    get_or-part b n (xorl d k) i 0 low
    ∙ get_or-xorl d k (b + i) (omega (arith, low, h))
    ∙ sym (get_or-xorl (part b n d) (drop b k) i (rw longer low) ∙ rw (get_or-part b n d i 0 low, get_or-drop b k i 0)))

-- of what is laid over d as many bytes as d has will do
pub xorl-take : (d k : List ℕ) → length d ≤ length k → xorl d (take (length d) k) ≡ xorl d k
xorl-take d k h =
    sym (xorl-front d (take (length d) k) (drop (length d) k) (rw (length-take-le (length d) k h) (omega arith)))
    ∙ ap (λ (l : List ℕ). xorl d l) (take-append-drop (length d) k)
