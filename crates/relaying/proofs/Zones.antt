-- Bytes laid at a place of a piece, and bytes laid beside.
use mathlib.Core.Path.{◌≡◌, refl, ap, sym, ◌∙◌}
use mathlib.Core.Logic.{⊎_elim}
use mathlib.Core.List.{List, ◌++◌}
use Prim.Native.Nat.{ℕ, ◌+◌, ◌-◌, ◌<◌, ◌≤◌}
use native.Mathlib.Omega.{arith}
use lib.Bits.{bit_xor}
use lib.Dec.{ltb, leb}
use lib.ListN.{length, get_or}
use lib.Seq.{sets, length-sets, ext_get_or}
use borrow.Author.Tests.{lt-ltb, le-ltb, le-leb, lt-leb, ltb-true, ltb-false}
use borrow.Rule.Slice.PartMut.{mid_of, post_of, put_mid}
use Rattle.base.specs.Pick.{pick, both}
use Rattle.base.specs.Lists.{tab, part}
use Rattle.base.proofs.PickLaws.{told, yes, no, both-on, both_off}
use Rattle.base.proofs.PartLaws.{length_part, get_or-part, back, sets_below, sets-above, sets-inside}
use Rattle.base.proofs.TabLaws.{length-tab, get_or-tab}
use Rattle.words.specs.Xor.{xorl}
use Rattle.words.proofs.XorLaws.{length-xorl, get_or-xorl}
use Rattle.relaying.specs.Flake.{laid_beside}

-- a list by its bytes
pub by_bytes : (n : ℕ) (f : ℕ → ℕ) (w : List ℕ) → length w ≡ n → ((i : ℕ) → i < n → get_or w i 0 ≡ f i) → w ≡ tab n f
by_bytes n f w e h =
    ext_get_or 0 w (tab n f) (e ∙ sym (length-tab n f)) (λ i q. let low : i < n = omega (arith, q, e) in h i low ∙ sym (get_or-tab n f i 0 low))

-- the bytes that take a place
set_at : (l vs : List ℕ) (at n i : ℕ) → length vs ≡ n → at + n ≤ length l → at ≤ i → i < at + n → get_or (sets l at vs) i 0 ≡ get_or vs (i - at) 0
set_at l vs at n i e h a b =
    let place : at + (i - at) ≡ i = omega (arith, a) in
    ap (λ (x : ℕ). get_or (sets l at vs) x 0) (sym place) ∙ sets-inside l at n vs (i - at) e h (omega (arith, a, b))

-- n bytes of y laid over those of k from a place on
module _ (k y : List ℕ) (at n : ℕ) (room : at + n ≤ length k) {z : List ℕ} (ez : z ≡ xorl (part at n k) y) where
  length-laid : length z ≡ n
  length-laid = rw ez (length-xorl (part at n k) y ∙ length_part at n k room)

  pub laid-at : (i : ℕ) → at ≤ i → i < at + n → get_or (sets k at z) i 0 ≡ bit_xor (get_or k i 0) (get_or y (i - at) 0)
  laid-at i a b =
      let place : at + (i - at) ≡ i = omega (arith, a) in
      let low : i - at < n = omega (arith, a, b) in
      set_at k z at n i length-laid room a b
      ∙ ap (λ (l : List ℕ). get_or l (i - at) 0) ez
      ∙ get_or-xorl (part at n k) y (i - at) (rw (length_part at n k room) low)
      ∙ ap (λ (x : ℕ). bit_xor x (get_or y (i - at) 0)) (get_or-part at n k (i - at) 0 low ∙ ap (λ (x : ℕ). get_or k x 0) place)

  pub laid-before : (i : ℕ) → i < at → get_or (sets k at z) i 0 ≡ get_or k i 0
  laid-before i a = sets_below k at z i a

  pub laid-behind : (i : ℕ) → at + n ≤ i → get_or (sets k at z) i 0 ≡ get_or k i 0
  laid-behind i a = sets-above k at z i (rw length-laid a)

  pub laid-back : put_mid at n k z ≡ sets k at z
  laid-back = back at n k z room length-laid

-- a place in one of three zones
pub zoned : (Q : Type 0) (i at end : ℕ) → (i < at → Q) → (at ≤ i → i < end → Q) → (end ≤ i → Q) → Q
zoned Q i at end a b c =
    ⊎_elim (λ e. a (ltb-true i at e))
    (λ e. ⊎_elim (λ d. b (ltb-false i at e) (ltb-true i end d)) (λ d. c (ltb-false i end d)) (told (ltb i end)))
    (told (ltb i at))

-- before a place, and behind another
module _ (at end : ℕ) (x k : List ℕ) (order : at ≤ end) (inside : end ≤ length k) (enough : length k ≤ length x) where
  abbrev Byte : ℕ → ℕ
  Byte i = pick (both (leb at i) (ltb i end)) (get_or k i 0) (bit_xor (get_or k i 0) (get_or x i 0))

  pub beside_laid : {y z : List ℕ} (n : ℕ) → y ≡ xorl (mid_of 0 (at - 0) k) x → n ≡ length (y ++ post_of 0 (at - 0) k) - end
      → z ≡ xorl (mid_of end n (y ++ post_of 0 (at - 0) k)) (part end (length x - end) x) → put_mid end n (y ++ post_of 0 (at - 0) k) z ≡ laid_beside at end x k
  unfolding laid_beside
  beside_laid {y} {z} n ey en ez =
      let h = y ++ post_of 0 (at - 0) k in
      let front : 0 + (at - 0) ≤ length k = omega arith in
      let once : h ≡ sets k 0 y = laid-back k x 0 (at - 0) front ey in
      let long : length h ≡ length k = rw once (length-sets k 0 y) in
      let room : end + n ≤ length h = omega (arith, en, long) in
      let rest = part end (length x - end) x in
      let same : (i : ℕ) → at ≤ i → get_or h i 0 ≡ get_or k i 0 =
      λ i a. ap (λ (q : List ℕ). get_or q i 0) once ∙ laid-behind k x 0 (at - 0) front ey i (omega (arith, a)) in
      laid-back h rest end n room ez
      ∙ by_bytes (length k) Byte (sets h end z) (length-sets h end z ∙ long)
      (λ i l. zoned (get_or (sets h end z) i 0 ≡ Byte i) i at end
      (λ a.
      let none : i - 0 ≡ i = omega arith in
      laid-before h rest end n room ez i (omega (arith, a, order))
      ∙ ap (λ (q : List ℕ). get_or q i 0) once
      ∙ laid-at k x 0 (at - 0) front ey i (omega arith) (omega (arith, a))
      ∙ rw none (sym (no _ (both_off _ (lt-leb at i a)) refl)))
      (λ a b. laid-before h rest end n room ez i b ∙ same i a ∙ sym (yes _ (both-on (le-leb at i a) (lt-ltb i end b)) refl))
      (λ c.
      let place : end + (i - end) ≡ i = omega (arith, c) in
      laid-at h rest end n room ez i c (omega (arith, en, long, l))
      ∙ ap (λ (q : ℕ). bit_xor (get_or h i 0) q) (get_or-part end (length x - end) x (i - end) 0 (omega (arith, c, l, enough)) ∙ ap (λ (q : ℕ). get_or x q 0) place)
      ∙ ap (λ (q : ℕ). bit_xor q (get_or x i 0)) (same i (omega (arith, c, order)))
      ∙ sym (no _ (both-on (le-leb at i (omega (arith, c, order))) (le-ltb i end c)) refl)))
