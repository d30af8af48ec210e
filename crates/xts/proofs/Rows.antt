-- Pieces of one length in a row, each by a rule from a state that steps: blocks of a sector, and sectors of a buffer.
use mathlib.Core.Path.{◌≡◌, refl, ap, ap₂, sym, ◌∙◌}
use mathlib.Core.List.{List, [], ◌∷◌, ◌++◌, append_assoc, append-nil}
use Prim.Native.Nat.{ℕ, zero, suc, ◌+◌, ◌-◌, ◌*◌, ◌<◌, ◌≤◌}
use native.Mathlib.Omega.{arith}
use lib.ListN.{length, take, drop, length-append, length-drop, take-append-drop}
use lib.Seq.{take_at, drop_at, sets, sets-eq, drop-drop, length-take-le, take_all}
use Rattle.std.proofs.lemmas.List.{nil_from_length}
use Rattle.base.specs.Lists.{part}
use Rattle.words.specs.Le.{Bytes}
use Rattle.words.proofs.LeLaws.{bytes-part}

bytes_drop : (n : ℕ) (l : List ℕ) → Bytes l → Bytes (drop n l)
bytes_drop zero l h = h
bytes_drop (suc n) [] h = h
bytes_drop (suc n) (x ∷ l) h = bytes_drop n l (λ i. h (suc i))

-- n pieces of k bytes
pub record Row {S : Type 0} (k : ℕ) (next : S → S) (f : S → List ℕ → List ℕ) (row : ℕ → S → List ℕ → List ℕ) : Type 0 where
  pub none : (s : S) (d : List ℕ) → row zero s d ≡ []
  pub more : (n : ℕ) (s : S) (d : List ℕ) → row (suc n) s d ≡ f s (take k d) ++ row n (next s) (drop k d)

module _ {S : Type 0} {k : ℕ} {next : S → S} {f : S → List ℕ → List ℕ} {row : ℕ → S → List ℕ → List ℕ} (is : Row k next f row) where
  pub long : ((s : S) (d : List ℕ) → length (f s d) ≡ k) → (n : ℕ) (s : S) (d : List ℕ) → length (row n s d) ≡ k * n
  long h zero s d = ap length (is.none s d) ∙ omega arith
  long h (suc n) s d =
      ap length (is.more n s d)
      ∙ length-append (f s (take k d)) (row n (next s) (drop k d))
      ∙ rw (h s (take k d), long h n (next s) (drop k d)) (omega arith)

  -- d with the rest done from piece i on is what d₀ is to become
  pub record Left (n : ℕ) (s₀ : S) (d₀ : List ℕ) (i : ℕ) (s : S) (d : List ℕ) : Type 0 where
    pub goes : take (k * i) d ++ row (n - i) s (drop (k * i) d) ≡ row n s₀ d₀

  pub left-none : (n : ℕ) (s : S) (d : List ℕ) → Left n s d 0 s d
  left-none n s d =
      let none : k * 0 ≡ 0 = omega arith in
      let all : n - 0 ≡ n = omega arith in
      record { goes = rw (none, all) refl }

  -- a piece is done
  pub left_more : {n : ℕ} {s₀ : S} {d₀ : List ℕ} (i : ℕ) (s : S) (d : List ℕ) {v e : List ℕ} {u : S} → Left n s₀ d₀ i s d → i < n
      → k * i + k ≤ length d → v ≡ f s (part (k * i) k d) → length v ≡ k → e ≡ sets d (k * i) v → u ≡ next s → Left n s₀ d₀ (i + 1) u e
  left_more {n} i s d {v} {e} {u} left h room q reach ee eu =
      let at = k * i in
      let p = take at d in
      let m = n - (i + 1) in
      let fits : at + length v ≤ length d = rw reach room in
      let rest = drop (at + length v) d in
      let now : k * (i + 1) ≡ at + k = omega arith in
      let front : length (p ++ v) ≡ k * (i + 1) = length-append p v ∙ rw (reach, length-take-le at d (omega arith)) (sym now) in
      let steps : n - i ≡ suc m = omega arith in
      let behind : rest ≡ drop k (drop at d) = ap (λ (j : ℕ). drop (at + j) d) reach ∙ sym (drop-drop k at d) in
      record {
        goes =
            ap₂ (λ (z : List ℕ) (y : S). take (k * (i + 1)) z ++ row m y (drop (k * (i + 1)) z)) (ee ∙ sets-eq v d at fits) eu
            ∙ ap₂ (λ (x y : List ℕ). x ++ row m (next s) y) (take_at (p ++ v) rest (k * (i + 1)) front) (drop_at (p ++ v) rest (k * (i + 1)) front)
            ∙ append_assoc p v (row m (next s) rest)
            ∙ ap₂ (λ (x y : List ℕ). p ++ (x ++ row m (next s) y)) q behind
            ∙ ap (λ (x : List ℕ). p ++ x) (sym (is.more m s (drop at d)))
            ∙ ap (λ (j : ℕ). p ++ row j s (drop at d)) (sym steps)
            ∙ left.goes;
      }

  pub left-all : {n : ℕ} {s₀ : S} {d₀ : List ℕ} (i : ℕ) (s : S) (d : List ℕ) → Left n s₀ d₀ i s d → n ≤ i → length d ≤ k * i → d ≡ row n s₀ d₀
  left-all {n} i s d left h l =
      let none : n - i ≡ 0 = omega arith in
      sym
      (ap (λ (j : ℕ). take (k * i) d ++ row j s (drop (k * i) d)) none
      ∙ ap (λ (x : List ℕ). take (k * i) d ++ x) (is.none s (drop (k * i) d))
      ∙ append-nil (take (k * i) d)
      ∙ take_all (k * i) d l)
      ∙ left.goes

-- a rule that another undoes, under each state that may come
pub row-back : {S : Type 0} {k : ℕ} {next : S → S} {f g : S → List ℕ → List ℕ} {to back : ℕ → S → List ℕ → List ℕ} (P : S → Type 0)
    → Row k next f to → Row k next g back → ((s : S) → P s → P (next s)) → ((s : S) (d : List ℕ) → length (f s d) ≡ k)
    → ((s : S) (d : List ℕ) → P s → length d ≡ k → Bytes d → g s (f s d) ≡ d)
    → (n : ℕ) (s : S) (d : List ℕ) → length d ≡ k * n → Bytes d → P s → back n s (to n s d) ≡ d
row-back P there here steps long undone zero s d e b p = here.none s _ ∙ sym (nil_from_length d (e ∙ omega arith))
row-back {k = k} {next = next} {f = f} {g = g} {to = to} {back = back} P there here steps long undone (suc n) s d e b p =
    let x = take k d in
    let q = f s x in
    let rest = to n (next s) (drop k d) in
    let all : length d ≡ k * n + k = e ∙ omega arith in
    let room : length x ≡ k = length-take-le k d (omega arith) in
    let left : length (drop k d) ≡ k * n = length-drop k d ∙ omega arith in
    let reach : length q ≡ k = long s x in
    ap (back (suc n) s) (there.more n s d)
    ∙ here.more n s (q ++ rest)
    ∙ ap₂ (λ (y z : List ℕ). g s y ++ back n (next s) z) (take_at q rest k reach) (drop_at q rest k reach)
    ∙ ap₂ (λ (y z : List ℕ). y ++ z) (undone s x p room (bytes-part 0 k d b)) (row-back P there here steps long undone n (next s) (drop k d) left (bytes_drop k d b) (steps s p))
    ∙ take-append-drop k d
