-- A text cut behind each newline: its first piece.
use mathlib.Core.Path.{◌≡◌, refl, sym, ap, ◌∙◌}
use mathlib.Core.Bool.{Bool, true, false}
use mathlib.Core.Logic.{◌⊎◌, inl, inr}
use mathlib.Core.List.{List, [], ◌∷◌, ◌++◌}
use Prim.Native.Nat.{ℕ, zero, suc, ◌+◌, ◌-◌, ◌<◌, ◌≤◌, min}
use native.Mathlib.Omega.{arith}
use lib.Dec.{eqb, leb, ltb}
use lib.ListN.{length, get_or, get_or-append, take, drop}
use lib.Seq.{take_all, take-append_seam, drop-append_seam}
use borrow.Author.Tests.{leb-true, leb-false, ltb-true, ltb-false, eq-eqb}
use Rattle.std.specs.List.{IsFirstMatchOrLen}
use Rattle.std.proofs.lemmas.List.{get_or_past}
use Rattle.std.proofs.lemmas.List.Sums.{position_or_len_is}
use Rattle.base.specs.Pick.{pick}
use Rattle.base.proofs.PickLaws.{told, clash, yes, no}
use Rattle.line.specs.Reading.{up_to, past}
use Rattle.line.proofs.ReadLaws.{up_to-le, up_to-take}
use Rattle.standings.proofs.ReadingLaws.{prefix_is, behind_is}
use Rattle.fleets.specs.Lines.{unended}

-- the first line of the first b bytes
pub up_to_cut : (c b : ℕ) (i : List ℕ) → up_to c (take b i) ≡ take b (up_to c i)
unfolding up_to
up_to_cut c zero i = refl
up_to_cut c (suc b) [] = refl
up_to_cut c (suc b) (x ∷ i) = go (eqb x c) (up_to_cut c b i)
  where
    go : (t : Bool) → up_to c (take b i) ≡ take b (up_to c i) → pick t [] (x ∷ up_to c (take b i)) ≡ take (suc b) (pick t [] (x ∷ up_to c i))
    go true h = refl
    go false h = ap (λ (l : List ℕ). x ∷ l) h

-- the place that the cut is told by
first_is : (l : List ℕ) (i : ℕ) → IsFirstMatchOrLen (λ b. eqb b 10) l i → i ≡ length (up_to 10 l)
first_is l i h = go (told (leb i (length l)))
  where
    go : (leb i (length l) ≡ true) ⊎ (leb i (length l) ≡ false) → i ≡ length (up_to 10 l)
    go (inl e) = sym (position_or_len_is (λ b. eqb b 10) l i 0 (leb-true i (length l) e) (λ k s. h.0 k 0 (omega arith) s) (λ s. h.1 s 0)) ∙ prefix_is 10 l
    go (inr e) = absurd (clash (eq-eqb (get_or l (length l) 10) 10 (get_or_past l (length l) 10 (omega arith))) (h.0 (length l) 10 (omega arith) (omega (arith, leb-false i (length l) e))))

-- the first piece has the first line, and the rest follows
pub piece_line : (l x r : List ℕ) (i : ℕ) → l ≡ x ++ r → length x ≡ min (i + 1) (length l) → IsFirstMatchOrLen (λ b. eqb b 10) l i → up_to 10 x ≡ up_to 10 l
piece_line l x r i e n h =
    let is = first_is l i h in
    let cut : take (length x) l ≡ x = rw e (take-append_seam x r) in
    let long : length (up_to 10 l) ≤ length x = omega (arith, is, n, up_to-le 10 l) in
    ap (up_to 10) (sym cut) ∙ up_to_cut 10 (length x) l ∙ take_all (length x) (up_to 10 l) long

pub piece_rest : (l x r : List ℕ) (i : ℕ) → l ≡ x ++ r → length x ≡ min (i + 1) (length l) → IsFirstMatchOrLen (λ b. eqb b 10) l i → r ≡ past 10 l
piece_rest l x r i e n h =
    let is : i ≡ 0 + length (up_to 10 (drop 0 l)) = first_is l i h ∙ omega arith in
    let cut : drop (length x) l ≡ r = rw e (drop-append_seam x r) in
    let m : length x ≡ min (length l) (i + 1) = omega (arith, n) in
    sym cut ∙ rw m (behind_is 10 l 0 is)

-- where the first piece's line ends: at its last byte if that is a newline, and else behind it
pub unended_le : (x : List ℕ) {end : ℕ} → end ≡ unended x → end ≤ length x
unended_le x e = go (eqb (get_or x (length x - 1) 0) 10) e
  where
    go : (t : Bool) {end : ℕ} → end ≡ pick t (length x - 1) (length x) → end ≤ length x
    go true q = omega (arith, q)
    go false q = omega (arith, q)

pub piece_some : (l x : List ℕ) (i : ℕ) → length x ≡ min (i + 1) (length l) → 0 < length l → 0 < length x
piece_some l x i n some = omega (arith, n, some)

pub piece_end : (l x r : List ℕ) (i : ℕ) → l ≡ x ++ r → length x ≡ min (i + 1) (length l) → IsFirstMatchOrLen (λ b. eqb b 10) l i → 0 < length l
    → {end : ℕ} → end ≡ unended x → take end x ≡ up_to 10 x
piece_end l x r i e n h some {end} ee =
    let is = first_is l i h in
    let long : length (up_to 10 x) ≡ i = ap (λ (k : List ℕ). length k) (piece_line l x r i e n h) ∙ sym is in
    let inside : length x - 1 < length x = omega (arith, n, some) in
    let last : get_or x (length x - 1) 0 ≡ get_or l (length x - 1) 0 = sym (ap (λ (k : List ℕ). get_or k (length x - 1) 0) e ∙ get_or-append x r 0 (length x - 1) inside) in
    let ends : end ≡ i = go (told (ltb i (length l))) last in
    let f : end ≡ length (up_to 10 x) = ends ∙ sym long in
    rw f (up_to-take 10 x)
  where
    go : (ltb i (length l) ≡ true) ⊎ (ltb i (length l) ≡ false) → get_or x (length x - 1) 0 ≡ get_or l (length x - 1) 0 → end ≡ i
    go (inl t) last =
        let s : i < length l = ltb-true i (length l) t in
        let at : length x - 1 ≡ i = omega (arith, n, s) in
        let hit : eqb (get_or x (length x - 1) 0) 10 ≡ true = ap (λ (b : ℕ). eqb b 10) (last ∙ ap (λ (k : ℕ). get_or l k 0) at) ∙ h.1 s 0 in
        ee ∙ yes _ hit refl ∙ at
    go (inr t) last =
        let s : length l ≤ i = ltb-false i (length l) t in
        let is = first_is l i h in
        let all : length x ≡ i = omega (arith, n, s, is, up_to-le 10 l) in
        let miss : eqb (get_or x (length x - 1) 0) 10 ≡ false = ap (λ (b : ℕ). eqb b 10) last ∙ h.0 (length x - 1) 0 (omega arith) (omega (arith, all, n, some)) in
        ee ∙ no _ miss refl ∙ all
