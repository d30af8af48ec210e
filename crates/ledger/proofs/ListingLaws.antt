-- Laws of the listing: of joined lists, of what one nugget lists, and of what a call lists.
use mathlib.Core.Path.{◌≡◌, refl, ap, sym, ◌∙◌}
use mathlib.Core.Bool.{Bool, true, false}
use mathlib.Core.Logic.{◌⊎◌, inl, inr}
use mathlib.Core.Option.{Option, none, some}
use mathlib.Core.List.{List, [], ◌∷◌, ◌++◌}
use Prim.Native.Nat.{ℕ, zero, suc, ◌+◌, ◌<◌}
use native.Mathlib.Omega.{arith}
use lib.Dec.{eqb, ltb}
use borrow.Author.Tests.{eqb-true, eqb-false, eq-eqb, ne_eqb, ltb-true, ltb-false, lt-ltb, le-ltb}
use Rattle.base.specs.Pick.{pick, both}
use Rattle.base.proofs.PickLaws.{told, clash, both_no}
use Rattle.records.specs.Listing.{Entry, entry, pads_of}
use Rattle.ledger.specs.Listing.{is_for, says, one, times, or_else, last_of}

-- joined lists
pub times-append : (n k f : ℕ) (a b : List Entry) → times n k f (a ++ b) ≡ times n k f a + times n k f b
unfolding times
times-append n k f [] b = omega arith
times-append n k f (e ∷ a) b = omega (arith, times-append n k f a b)

or_else_assoc : (a b d : Option Entry) → or_else (or_else a b) d ≡ or_else a (or_else b d)
or_else_assoc none b d = refl
or_else_assoc (some e) b d = refl

pub or_else-none : (a : Option Entry) → or_else a none ≡ a
or_else-none none = refl
or_else-none (some e) = refl

pub last-append : (n f : ℕ) (a b : List Entry) → last_of n f (a ++ b) ≡ or_else (last_of n f b) (last_of n f a)
unfolding last_of
last-append n f [] b = sym (or_else-none (last_of n f b))
last-append n f (e ∷ a) b =
    ap (λ (o : Option Entry). or_else o (pick (is_for n f e) (some e) none)) (last-append n f a b)
    ∙ or_else_assoc (last_of n f b) (last_of n f a) (pick (is_for n f e) (some e) none)

-- what one nugget lists at one keycount: each flake below p in the set, once
pub times_in : (n k f : ℕ) (s : List ℕ) (g : ℕ → Bool) (p : ℕ) → times n k f (pads_of n k s g p) ≡ one (both (ltb f p) (g f))
unfolding times pads_of
times_in n k f s g zero = rw (le-ltb f 0 (omega arith))
times_in n k f s g (suc p) = times-append n k f (pads_of n k s g p) (pick (g p) (entry n k p s ∷ []) []) ∙ go (told (ltb f p)) (told (ltb p f)) (times_in n k f s g p)
  where
    here : (b : Bool) → times n k f (pick b (entry n k p s ∷ []) []) ≡ one (both (eqb p f) b)
    here true = rw (eq-eqb n n refl, eq-eqb k k refl) (some_bool (eqb p f))
      where
        some_bool : (b : Bool) → one (both b true) + 0 ≡ one (both b true)
        some_bool b = omega arith
    here false = rw (both_no (eqb p f))

    go : (ltb f p ≡ true) ⊎ (ltb f p ≡ false) → (ltb p f ≡ true) ⊎ (ltb p f ≡ false) → times n k f (pads_of n k s g p) ≡ one (both (ltb f p) (g f))
        → times n k f (pads_of n k s g p) + times n k f (pick (g p) (entry n k p s ∷ []) []) ≡ one (both (ltb f (suc p)) (g f))
    go (inl e) y again =
        let l : f < p = ltb-true f p e in
        rw (again, here (g p), e, ne_eqb p f (λ q. omega arith), lt-ltb f (suc p) (omega arith)) (omega arith)
    go (inr e) (inl d) again =
        let l : p < f = ltb-true p f d in
        rw (again, here (g p), e, ne_eqb p f (λ q. omega arith), le-ltb f (suc p) (omega arith))
    go (inr e) (inr d) again =
        let q : p ≡ f = omega (arith, ltb-false f p e, ltb-false p f d) in
        rw (again, here (g p), e, q, eq-eqb f f refl, lt-ltb f (suc f) (omega arith)) (omega arith)

-- entries that say something else don't count
times_away : (n k f m j : ℕ) (s : List ℕ) (g : ℕ → Bool) (p : ℕ) → ((q : ℕ) → says n k f (entry m j q s) ≡ false) → times n k f (pads_of m j s g p) ≡ 0
unfolding times pads_of
times_away n k f m j s g zero h = refl
times_away n k f m j s g (suc p) h =
    times-append n k f (pads_of m j s g p) (pick (g p) (entry m j p s ∷ []) []) ∙ rw (times_away n k f m j s g p h) (go (g p))
  where
    go : (b : Bool) → 0 + times n k f (pick b (entry m j p s ∷ []) []) ≡ 0
    go true = rw (h p)
    go false = refl

pub times-nugget : (n k f m j : ℕ) (s : List ℕ) (g : ℕ → Bool) (p : ℕ) → (m ≡ n → ⊥) → times n k f (pads_of m j s g p) ≡ 0
times-nugget n k f m j s g p h = times_away n k f m j s g p (λ q. rw (ne_eqb m n h))

pub times-keycount : (n k f j : ℕ) (s : List ℕ) (g : ℕ → Bool) (p : ℕ) → (j ≡ k → ⊥) → times n k f (pads_of n j s g p) ≡ 0
times-keycount n k f j s g p h = times_away n k f n j s g p (λ q. rw (ne_eqb j k h) (both_no (is_for n f (entry n j q s))))

-- the last entry of a flake: none of another's, and its own
last_away : (n f m k : ℕ) (s : List ℕ) (g : ℕ → Bool) (p : ℕ) → ((q : ℕ) → g q ≡ true → is_for n f (entry m k q s) ≡ false)
    → last_of n f (pads_of m k s g p) ≡ none
unfolding last_of pads_of
last_away n f m k s g zero h = refl
last_away n f m k s g (suc p) h =
    last-append n f (pads_of m k s g p) (pick (g p) (entry m k p s ∷ []) []) ∙ rw (last_away n f m k s g p h) (go (g p) refl)
  where
    go : (b : Bool) → g p ≡ b → or_else (last_of n f (pick b (entry m k p s ∷ []) [])) none ≡ none
    go true e = rw (h p e)
    go false e = refl

pub last-nugget : (n f m k : ℕ) (s : List ℕ) (g : ℕ → Bool) (p : ℕ) → (m ≡ n → ⊥) → last_of n f (pads_of m k s g p) ≡ none
last-nugget n f m k s g p h = last_away n f m k s g p (λ q e. rw (ne_eqb m n h))

pub last_out : (n f k : ℕ) (s : List ℕ) (g : ℕ → Bool) (p : ℕ) → g f ≡ false → last_of n f (pads_of n k s g p) ≡ none
last_out n f k s g p h =
    last_away n f n k s g p (λ q e. rw (ne_eqb q f (λ z. clash (rw z at e) h)) (both_no (eqb n n)))

pub last_in : (n f k : ℕ) (s : List ℕ) (g : ℕ → Bool) (p : ℕ) → f < p → g f ≡ true → last_of n f (pads_of n k s g p) ≡ some (entry n k f s)
unfolding last_of pads_of
last_in n f k s g zero l h = absurd (omega arith)
last_in n f k s g (suc p) l h =
    last-append n f (pads_of n k s g p) (pick (g p) (entry n k p s ∷ []) []) ∙ go (told (eqb p f)) (λ d. last_in n f k s g p d h)
  where
    other : (b : Bool) → eqb p f ≡ false → last_of n f (pick b (entry n k p s ∷ []) []) ≡ none
    other true e = rw (e, both_no (eqb n n))
    other false e = refl

    go : (eqb p f ≡ true) ⊎ (eqb p f ≡ false) → (f < p → last_of n f (pads_of n k s g p) ≡ some (entry n k f s))
        → or_else (last_of n f (pick (g p) (entry n k p s ∷ []) [])) (last_of n f (pads_of n k s g p)) ≡ some (entry n k f s)
    go (inl e) again = rw (eqb-true p f e, h, eq-eqb n n refl, eq-eqb f f refl)
    go (inr e) again = rw (other (g p) e) (again (omega (arith, eqb-false p f e)))
