-- After a call's encipherings: each flake that is listed is its new contents under its pad, with its tag; every other is as it was.
use mathlib.Core.Path.{◌≡◌, refl, ap, sym, ◌∙◌}
use mathlib.Core.Logic.{⊎_elim}
use mathlib.Core.Bool.{Bool, true, false}
use mathlib.Core.List.{List, [], ◌∷◌}
use Prim.Native.Nat.{ℕ, zero, suc, ◌<◌, ◌≤◌}
use native.Mathlib.Omega.{arith}
use Rattle.base.specs.Pick.{pick}
use Rattle.base.specs.Lists.{part}
use Rattle.base.proofs.PickLaws.{clash}
use Rattle.layout.specs.declared.Shape.{Shape}
use Rattle.layout.specs.Shaped.{Shaped}
use Rattle.layout.specs.Parts.{tag_at}
use Rattle.records.specs.declared.Record.{Record}
use Rattle.records.specs.declared.Way.{Way}
use Rattle.records.specs.Journal.{bit}
use Rattle.records.specs.Rule.{enciphered, keycount_after}
use Rattle.records.specs.Listing.{Entry, entry, pads_of, pads_by, pads_to}
use Rattle.keys.specs.declared.Lock.{Lock}
use Rattle.keys.specs.Pads.{under}
use Rattle.keys.specs.Tags.{tag_of}
use Rattle.nuggets.specs.Nugget.{lock_by, stored_in}
use Rattle.changes.specs.Laid.{laid_entry, laid}
use Rattle.changes.proofs.Each.{Each, each_map, Of, each-pads}
use Rattle.changes.proofs.CellLaws.{ordered}
use Rattle.changes.proofs.LaidLaws.{laid-append, laid_lent, flake-put, tag-put, Long}
use Rattle.changes.proofs.PadsLaws.{Far, laid-stored, laid-tag, of_far}

-- a flake and its tag in two volumes
pub record Same (s : Shape) (n f : ℕ) (v w : List ℕ) : Type 0 where
  pub stored : stored_in s w n f ≡ stored_in s v n f
  pub tag : part (tag_at s n f) 16 w ≡ part (tag_at s n f) 16 v

-- a flake under a pad, with its tag
pub record Under (s : Shape) (f : ℕ) (lock : Lock) (c w : List ℕ) : Type 0 where
  pub stored : stored_in s w lock.number f ≡ under lock f s.f c
  pub tag : part (tag_at s lock.number f) 16 w ≡ tag_of lock f (under lock f s.f c)

pub same_trans : {s : Shape} {n f : ℕ} {u v w : List ℕ} → Same s n f u v → Same s n f v w → Same s n f u w
same_trans x y = record { stored = y.stored ∙ x.stored; tag = y.tag ∙ x.tag }

pub under_same : {s : Shape} {f : ℕ} {lock : Lock} {c v w : List ℕ} → Under s f lock c v → Same s lock.number f v w → Under s f lock c w
under_same x y = record { stored = y.stored ∙ x.stored; tag = y.tag ∙ x.tag }

module _ (s : Shape) (salt : List ℕ) (new : ℕ → ℕ → List ℕ) (long : Long s new) (n f : ℕ) (a : n < s.n) (b : f < s.p) where
  pub far_same : (es : List Entry) (v : List ℕ) → Each (Far s n f) es → Same s n f v (laid s salt new es v)
  far_same es v x = record { stored = laid-stored s salt new long n f a b es v x; tag = laid-tag s salt new long n f a b es v x }

  -- a flake outside the set stays
  pub pads-kept : (k : ℕ) (x : List ℕ) (g : ℕ → Bool) (p : ℕ) (v : List ℕ) → p ≤ s.p → g f ≡ false → Same s n f v (laid s salt new (pads_of n k x g p) v)
  pads-kept k x g p v h off =
      far_same (pads_of n k x g p) v
      (each_map (Of n g p) (Far s n f) (pads_of n k x g p)
      (λ e o.
      let own = o.own in
      let few = o.few in
      (record { nugget = omega (arith, own, a); flake = omega (arith, few, h) }, λ q r. clash (ap g r ∙ o.on) off))
      (each-pads n k x g p))

  -- its own entry lays it, another's doesn't touch it
  laid_one : (k : ℕ) (x w : List ℕ) → Shaped s w → (on : Bool) (q : ℕ) → f ≡ q → on ≡ true
      → Under s f (lock_by s salt x n k) (new n f) (laid s salt new (pick on (entry n k q x ∷ []) []) w)
  unfolding laid laid_entry
  laid_one k x w l on q e t =
      rw (t, ← e)
      (record {
        stored = flake-put s (lock_by s salt x n k) f (new n f) w l a b (long n f a b);
        tag = tag-put s (lock_by s salt x n k) f (new n f) w l a b;
      })

  one_far : (k : ℕ) (x : List ℕ) (on : Bool) (q : ℕ) → q < s.p → f < q → Each (Far s n f) (pick on (entry n k q x ∷ []) [])
  one_far k x true q h low = ((record { nugget = a; flake = h }, λ i j. omega (arith, j, low)), tt)
  one_far k x false q h low = tt

  -- a flake in the set is laid
  pub pads-put : (k : ℕ) (x : List ℕ) (g : ℕ → Bool) (p : ℕ) (v : List ℕ) → Shaped s v → p ≤ s.p → f < p → g f ≡ true
      → Under s f (lock_by s salt x n k) (new n f) (laid s salt new (pads_of n k x g p) v)
  unfolding pads_of
  pads-put k x g zero v l h c on = absurd (omega (arith, c))
  pads-put k x g (suc p) v l h c on =
      let w = laid s salt new (pads_of n k x g p) v in
      let last = pick (g p) (entry n k p x ∷ []) [] in
      rw (laid-append s salt new (pads_of n k x g p) last v)
      (⊎_elim
      (λ low. under_same (pads-put k x g p v l (omega (arith, h)) low on) (far_same last w (one_far k x (g p) p (omega (arith, h)) low)))
      (λ high.
      let e : f ≡ p = omega (arith, c, high) in
      laid_one k x w (laid_lent s salt new (pads_of n k x g p) v l) (g p) p e (sym (ap g e) ∙ on))
      (ordered f p))

  -- and so over the nuggets below m: those of other nuggets leave the flake
  pub to_kept : (way : ℕ → Way) (records : ℕ → Record) (x : List ℕ) (m : ℕ) (v : List ℕ) → m ≤ s.n → (n < m → bit (enciphered (way n) (records n)) f ≡ false)
      → Same s n f v (laid s salt new (pads_to s.p way records x m) v)
  unfolding pads_to pads_by laid
  to_kept way records x zero v h off = record { stored = refl; tag = refl }
  to_kept way records x (suc m) v h off =
      let es = pads_to s.p way records x m in
      let k = keycount_after (way m) (records m) in
      let g = bit (enciphered (way m) (records m)) in
      let w = laid s salt new es v in
      rw (laid-append s salt new es (pads_of m k x g s.p) v)
      (same_trans (to_kept way records x m v (omega (arith, h)) (λ low. off (omega (arith, low))))
      (⊎_elim
      (λ low. far_same (pads_of m k x g s.p) w (of_far s n f a b m k x g (omega (arith, h)) (λ e. omega (arith, e, low))))
      (λ high. ⊎_elim
      (λ low. far_same (pads_of m k x g s.p) w (of_far s n f a b m k x g (omega (arith, h)) (λ e. omega (arith, e, low))))
      (λ e. mine m w (omega (arith, high, e)) (off (omega (arith, high, e))))
      (ordered m n))
      (ordered n m)))
    where
      mine : (q : ℕ) (w : List ℕ) → n ≡ q → bit (enciphered (way n) (records n)) f ≡ false
          → Same s n f w (laid s salt new (pads_of q (keycount_after (way q) (records q)) x (bit (enciphered (way q) (records q))) s.p) w)
      mine q w e o = rw (← e) (pads-kept (keycount_after (way n) (records n)) x (bit (enciphered (way n) (records n))) s.p w (omega arith) o)

  pub to_put : (way : ℕ → Way) (records : ℕ → Record) (x : List ℕ) (m : ℕ) (v : List ℕ) → Shaped s v → m ≤ s.n → n < m → bit (enciphered (way n) (records n)) f ≡ true
      → Under s f (lock_by s salt x n (keycount_after (way n) (records n))) (new n f) (laid s salt new (pads_to s.p way records x m) v)
  unfolding pads_to pads_by
  to_put way records x zero v l h c on = absurd (omega (arith, c))
  to_put way records x (suc m) v l h c on =
      let es = pads_to s.p way records x m in
      let k = keycount_after (way m) (records m) in
      let g = bit (enciphered (way m) (records m)) in
      let w = laid s salt new es v in
      rw (laid-append s salt new es (pads_of m k x g s.p) v)
      (⊎_elim
      (λ low.
      under_same (to_put way records x m v l (omega (arith, h)) low on)
      (far_same (pads_of m k x g s.p) w (of_far s n f a b m k x g (omega (arith, h)) (λ e. omega (arith, e, low)))))
      (λ high. mine m w (laid_lent s salt new es v l) (omega (arith, high, c)))
      (ordered n m))
    where
      mine : (q : ℕ) (w : List ℕ) → Shaped s w → n ≡ q
          → Under s f (lock_by s salt x n (keycount_after (way n) (records n))) (new n f) (laid s salt new (pads_of q (keycount_after (way q) (records q)) x (bit (enciphered (way q) (records q))) s.p) w)
      mine q w lw e = rw (← e) (pads-put (keycount_after (way n) (records n)) x (bit (enciphered (way n) (records n))) s.p w lw (omega arith) b on)
