-- A fact that holds of each entry of a list, and what the listings' entries say.
use mathlib.Core.Path.{◌≡◌, refl, ap, ◌∙◌}
use mathlib.Core.Bool.{Bool, true, false}
use mathlib.Core.List.{List, [], ◌∷◌, ◌++◌}
use Prim.Native.Nat.{ℕ, zero, suc, ◌<◌}
use native.Mathlib.Omega.{arith}
use Rattle.base.specs.Pick.{pick}
use Rattle.records.specs.declared.Record.{Record}
use Rattle.records.specs.declared.Way.{Way}
use Rattle.records.specs.Journal.{bit}
use Rattle.records.specs.Rule.{enciphered, keycount_after}
use Rattle.records.specs.Listing.{Entry, entry, pads_of, pads_by, pads_to}

-- the fact holds of each entry
abbrev pub Each : (Entry → Type 0) → List Entry → Type 0
Each P [] = Unit {0}
Each P (e ∷ es) = P e × Each P es

pub each_append : (P : Entry → Type 0) (a b : List Entry) → Each P a → Each P b → Each P (a ++ b)
each_append P [] b x y = y
each_append P (e ∷ a) b x y = (x.0, each_append P a b x.1 y)

pub each_map : (P Q : Entry → Type 0) (es : List Entry) → ((e : Entry) → P e → Q e) → Each P es → Each Q es
each_map P Q [] h x = tt
each_map P Q (e ∷ es) h x = (h e x.0, each_map P Q es h x.1)

-- what an entry of one nugget says: its flake is in the set
pub record Of (n : ℕ) (g : ℕ → Bool) (p : ℕ) (e : Entry) : Type 0 where
  pub own : e.nugget ≡ n
  pub few : e.flake < p
  pub on : g e.flake ≡ true

of_next : (n : ℕ) (g : ℕ → Bool) (p : ℕ) (e : Entry) → Of n g p e → Of n g (suc p) e
of_next n g p e x = record { own = x.own; few = omega (arith, x.few); on = x.on }

pub each-pads : (n k : ℕ) (s : List ℕ) (g : ℕ → Bool) (p : ℕ) → Each (Of n g p) (pads_of n k s g p)
unfolding pads_of
each-pads n k s g zero = tt
each-pads n k s g (suc p) =
    each_append (Of n g (suc p)) (pads_of n k s g p) (pick (g p) (entry n k p s ∷ []) [])
    (each_map (Of n g p) (Of n g (suc p)) (pads_of n k s g p) (of_next n g p) (each-pads n k s g p))
    (go (g p) refl)
  where
    go : (b : Bool) → g p ≡ b → Each (Of n g (suc p)) (pick b (entry n k p s ∷ []) [])
    go true h = (record { own = refl; few = omega arith; on = h }, tt)
    go false h = tt

-- what a call enciphers: flake f of nugget n is in the set of its way
abbrev pub chosen : (ℕ → Way) → (ℕ → Record) → ℕ → ℕ → Bool
chosen way records n f = bit (enciphered (way n) (records n)) f

-- what an entry of the nuggets below m says
pub record Below (on : ℕ → ℕ → Bool) (m p : ℕ) (e : Entry) : Type 0 where
  pub under : e.nugget < m
  pub few : e.flake < p
  pub holds : on e.nugget e.flake ≡ true

below_next : (on : ℕ → ℕ → Bool) (m p : ℕ) (e : Entry) → Below on m p e → Below on (suc m) p e
below_next on m p e x = record { under = omega (arith, x.under); few = x.few; holds = x.holds }

of_below : (on : ℕ → ℕ → Bool) (m p : ℕ) (e : Entry) → Of m (on m) p e → Below on (suc m) p e
of_below on m p e x =
    let q = x.own in
    record { under = omega (arith, q); few = x.few; holds = ap (λ (n : ℕ). on n e.flake) q ∙ x.on }

pub each_to : (p : ℕ) (way : ℕ → Way) (records : ℕ → Record) (s : List ℕ) (m : ℕ) → Each (Below (chosen way records) m p) (pads_to p way records s m)
unfolding pads_to pads_by
each_to p way records s zero = tt
each_to p way records s (suc m) =
    let k = keycount_after (way m) (records m) in
    let on = chosen way records in
    each_append (Below on (suc m) p) (pads_to p way records s m) (pads_of m k s (on m) p)
    (each_map (Below on m p) (Below on (suc m) p) (pads_to p way records s m) (below_next on m p) (each_to p way records s m))
    (each_map (Of m (on m) p) (Below on (suc m) p) (pads_of m k s (on m) p) (of_below on m p) (each-pads m k s (on m) p))
