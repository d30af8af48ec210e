-- Laying one piece a turn: what is left to lay gives what is asked. Once, over any cipher.
use mathlib.Core.Path.{◌≡◌, refl, ap, sym, ◌∙◌}
use mathlib.Core.Logic.{⊎_elim}
use mathlib.Core.List.{List, [], ◌∷◌, ◌++◌, append_assoc, append-nil}
use Prim.Native.Nat.{ℕ, suc, ◌+◌, ◌-◌, ◌/◌, ◌<◌, ◌≤◌, min}
use native.Mathlib.Omega.{arith}
use borrow.Author.Tests.{leb-true, leb-false}
use lib.Dec.{leb}
use lib.ListN.{length, take, drop, length-append, length-take, length-drop, take-append-drop, drop_of_length-le}
use lib.Seq.{take_all, take_at, drop_at, length-take-le}
use Rattle.base.proofs.PickLaws.{told}
use Rattle.words.specs.Xor.{xorl}
use Rattle.streams.specs.Lay.{pieces, laid_by}
use Rattle.words.proofs.XorLaws.{length-xorl, xorl-append}

module _ (piece : ℕ → List ℕ) (next : ℕ → ℕ) (long : (c : ℕ) → length (piece c) ≡ 64) where
  pub laid_none : (c : ℕ) → laid_by piece next c [] ≡ []
  unfolding laid_by xorl
  laid_none c = refl

  -- less than a piece
  laid-few : (c : ℕ) (t : List ℕ) → length t < 64 → laid_by piece next c t ≡ xorl t (piece c)
  unfolding laid_by pieces xorl
  laid-few c [] h = refl
  laid-few c (a ∷ t) h =
      let one : (length (a ∷ t) + 63) / 64 ≡ 1 = omega arith in
      rw (one, append-nil (piece c))

  -- one piece over what it reaches, then the rest from the next counter on
  laid_next : (c : ℕ) (t : List ℕ) (n : ℕ) → n ≡ min 64 (length t) → xorl (take n t) (piece c) ++ laid_by piece next (next c) (drop n t) ≡ laid_by piece next c t
  unfolding laid_by pieces
  laid_next c t n e =
      ⊎_elim
      (λ h. let room : 64 ≤ length t = leb-true 64 (length t) h in
      let all : n ≡ 64 = omega arith in
      let full : length (take n t) ≡ 64 = length-take n t ∙ omega arith in
      let rest : length (drop n t) ≡ length t - 64 = length-drop n t ∙ omega arith in
      let count : (length t + 63) / 64 ≡ suc ((length (drop n t) + 63) / 64) = omega arith in
      sym
      (ap (λ (m : ℕ). xorl t (pieces piece next c m)) count
      ∙ ap (λ (l : List ℕ). xorl l (piece c ++ pieces piece next (next c) ((length (drop n t) + 63) / 64))) (sym (take-append-drop n t))
      ∙ xorl-append (take n t) (drop n t) (piece c) (pieces piece next (next c) ((length (drop n t) + 63) / 64)) (full ∙ sym (long c))))
      (λ h. let few : length t < 64 = leb-false 64 (length t) h in
      let all : length t ≤ n = omega arith in
      ap (λ (l : List ℕ). xorl (take n t) (piece c) ++ laid_by piece next (next c) l) (drop_of_length-le t all)
      ∙ ap (λ (l : List ℕ). xorl (take n t) (piece c) ++ l) (laid_none (next c))
      ∙ append-nil (xorl (take n t) (piece c))
      ∙ ap (λ (l : List ℕ). xorl l (piece c)) (take_all n t all)
      ∙ sym (laid-few c t few))
      (told (leb 64 (length t)))

  -- z takes the place of the n bytes from `at` on
  turn : (c : ℕ) (d z : List ℕ) (at n : ℕ) → n ≡ min 64 (length d - at) → at ≤ length d → z ≡ xorl (take n (drop at d)) (piece c)
      → take (at + n) (take at d ++ (z ++ drop n (drop at d))) ++ laid_by piece next (next c) (drop (at + n) (take at d ++ (z ++ drop n (drop at d))))
      ≡ take at d ++ laid_by piece next c (drop at d)
  turn c d z at n e h w =
      let p = take at d in
      let t = drop at d in
      let left : length t ≡ length d - at = length-drop at d in
      let reach : length z ≡ n = ap length w ∙ length-xorl (take n t) (piece c) ∙ length-take n t ∙ omega arith in
      let front : length (p ++ z) ≡ at + n = length-append p z ∙ rw (length-take-le at d h, reach) in
      rw (← append_assoc p z (drop n t), take_at (p ++ z) (drop n t) (at + n) front, drop_at (p ++ z) (drop n t) (at + n) front, append_assoc, w)
      (ap (λ (l : List ℕ). p ++ l) (laid_next c t n (rw left e)))

  -- d with the rest laid from `at` and c on is what d₀ is to become
  pub record Left (c₀ : ℕ) (d₀ : List ℕ) (c at : ℕ) (d : List ℕ) : Type 0 where
    pub goes : take at d ++ laid_by piece next c (drop at d) ≡ laid_by piece next c₀ d₀

  pub left-none : (c : ℕ) (d : List ℕ) → Left c d c 0 d
  left-none c d = record { goes = refl }

  past : {d₀ : List ℕ} {c₀ : ℕ} (c at n : ℕ) (d : List ℕ) → n ≤ 64 → (n < 64 → length d ≤ at + n) → Left c₀ d₀ c (at + n) d → Left c₀ d₀ c (at + 64) d
  past c at n d h ends left =
      ⊎_elim
      (λ full. let e : n ≡ 64 = omega (arith, leb-true 64 n full) in
      rw e at left)
      (λ part. let over : length d ≤ at + n = ends (leb-false 64 n part) in
      let far : length d ≤ at + 64 = omega arith in
      record { goes = rw (take_all (at + 64) d far, drop_of_length-le d far) (rw (take_all (at + n) d over, drop_of_length-le d over) at left.goes) })
      (told (leb 64 n))

  -- a turn: the piece at c, `b` is the next counter
  pub left_more : {d₀ : List ℕ} {c₀ : ℕ} (d : List ℕ) (c at n m : ℕ) {k z : List ℕ} {b : ℕ} → Left c₀ d₀ c at d → n ≡ min 64 (length d - at) → at ≤ length d
      → m ≡ n → k ≡ piece c → z ≡ xorl (take m (drop at d)) k → b ≡ next c → Left c₀ d₀ b (at + 64) (take at d ++ (z ++ drop m (drop at d)))
  left_more {d₀} {c₀} d c at n m {k} {z} {b} left e h q f w g =
      let v : z ≡ xorl (take n (drop at d)) (piece c) = rw (q, f) at w in
      let after = take at d ++ (z ++ drop n (drop at d)) in
      let reach : length z ≡ n = ap length v ∙ length-xorl (take n (drop at d)) (piece c) ∙ length-take n (drop at d) ∙ rw (length-drop at d) (omega arith) in
      let same : length after ≡ length d
      = length-append (take at d) (z ++ drop n (drop at d)) ∙ rw (length-append z (drop n (drop at d)), reach, length-take-le at d h, length-drop n (drop at d), length-drop at d) (omega arith) in
      rw (q, g) (past (next c) at n after (omega arith) (λ few. omega arith) (record { goes = turn c d z at n e h v ∙ left.goes }))

  pub left-all : {d₀ : List ℕ} {c₀ : ℕ} (d : List ℕ) (c at : ℕ) → Left c₀ d₀ c at d → length d ≤ at → d ≡ laid_by piece next c₀ d₀
  left-all d c at left h = sym (rw (take_all at d h, drop_of_length-le d h, laid_none c) (append-nil d)) ∙ left.goes
