-- Laws of rows: length, fields one by one, read back, stored back, and a run of stores.
use Prim.{tt}
use mathlib.Core.Path.{◌≡◌, refl, sym, ◌∙◌, ap}
use mathlib.Core.List.{List, [], ◌∷◌, ◌++◌}
use Prim.Native.Nat.{ℕ, zero, suc, ◌+◌, ◌≤◌}
use native.Mathlib.Nat.{add-zero}
use native.Mathlib.Omega.{arith}
use lib.ListN.{length, take, drop, length-append}
use lib.Seq.{sets, take_all, take_at, drop_at, take-take, drop-drop}
use Rattle.base.specs.Lists.{part}
use Rattle.base.proofs.PartLaws.{length_part, part-part, part-front, part-append, part-sets, sets-append, sets-full}
use Rattle.words.specs.Le.{Bytes}
use Rattle.words.proofs.LeLaws.{length-le, num-le, num-lt, le-num, bytes-part}
use Rattle.codec.specs.Row.{Field, number, string, wide, Value, put, got, FieldLong, FieldFits, Values, AllLong, AllFit, width, row, from, row_in, storing, RowStands}

from_is : (at k : ℕ) → from at k ≡ at + k
from_is at zero = sym (add-zero at)
from_is at (suc k) = refl

-- one field
length-put : (f : Field) (x : Value f) → FieldLong f x → length (put f x) ≡ wide f
length-put (number k) x h = length-le k x
length-put (string k) l h = h

fits-long : (f : Field) (x : Value f) → FieldFits f x → FieldLong f x
fits-long (number k) x h = tt
fits-long (string k) l h = h

got-put : (f : Field) (x : Value f) → FieldFits f x → got f (put f x) ≡ x
got-put (number k) x h = num-le k x h
got-put (string k) l h = refl

put-got : (f : Field) (v : List ℕ) (at : ℕ) → Bytes v → at + wide f ≤ length v → put f (got f (part at (wide f) v)) ≡ part at (wide f) v
put-got (number k) v at h room = rw (length_part at k v room) at (le-num (part at k v) (bytes-part at k v h))
put-got (string k) v at h room = refl

got-fits : (f : Field) (v : List ℕ) (at : ℕ) → Bytes v → at + wide f ≤ length v → FieldFits f (got f (part at (wide f) v))
got-fits (number k) v at h room = rw (length_part at k v room) at (num-lt (part at k v) (bytes-part at k v h))
got-fits (string k) v at h room = length_part at k v room

-- a row
pub all-long : (fs : List Field) (vs : Values fs) → AllFit fs vs → AllLong fs vs
all-long [] vs h = tt
all-long (f ∷ fs) vs h = (fits-long f vs.0 h.0, all-long fs vs.1 h.1)

pub length-row : (fs : List Field) (vs : Values fs) → AllLong fs vs → length (row fs vs) ≡ width fs
length-row [] vs h = refl
length-row (f ∷ fs) vs h = length-append (put f vs.0) (row fs vs.1) ∙ rw (length-put f vs.0 h.0, length-row fs vs.1 h.1)

-- the fields stand one by one exactly if the row stands
joined : (fs : List Field) (at k : ℕ) (vs : Values fs) (v : List ℕ) → RowStands fs at k vs v → row fs vs ≡ part (at + k) (width fs) v
joined [] at k vs v s = refl
joined (f ∷ fs) at k vs v s =
    rw (s.0, joined fs at (k + wide f) vs.1 v s.1, from_is at k) (part-append (at + k) (wide f) (width fs) (at + (k + wide f)) v (omega arith))

-- the first piece of a part, and the rest of it
pub peel : (w x rest : List ℕ) (at n m next : ℕ) → x ++ rest ≡ part at (n + m) w → length x ≡ n → at + n ≡ next → (x ≡ part at n w) × (rest ≡ part next m w)
peel w x rest at n m next e l q = (
  sym (take_at x rest n l) ∙ ap (λ (z : List ℕ). take n z) e ∙ take-take n (n + m) (drop at w) (omega arith),
  sym (drop_at x rest n l) ∙ ap (λ (z : List ℕ). drop n z) e ∙ sym (part-front n m (drop at w)) ∙ ap (λ (z : List ℕ). take m z) (drop-drop n at w ∙ ap (λ (k : ℕ). drop k w) q),
)

pub apart : (fs : List Field) (at k : ℕ) (vs : Values fs) (v : List ℕ) → AllLong fs vs → row fs vs ≡ part (at + k) (width fs) v → RowStands fs at k vs v
apart [] at k vs v h e = tt
apart (f ∷ fs) at k vs v h e =
    let p = peel v (put f vs.0) (row fs vs.1) (at + k) (wide f) (width fs) (at + (k + wide f)) e (length-put f vs.0 h.0) (omega arith) in
    (rw (from_is at k) p.0, apart fs at (k + wide f) vs.1 v h.1 p.1)

-- a row that stands is read back
pub read_back : (fs : List Field) (at k : ℕ) (vs : Values fs) (v : List ℕ) → AllFit fs vs → RowStands fs at k vs v → row_in fs at k v ≡ vs
read_back [] at k vs v h s = refl
read_back (f ∷ fs) at k vs v h s =
    let first = ap (λ (l : List ℕ). got f l) (sym s.0) ∙ got-put f vs.0 h.0 in
    let rest = read_back fs at (k + wide f) vs.1 v h.1 s.1 in
    λ i. (first i, rest i)

-- bytes that are read stand as the row of what they hold, which is within its widths
stand_back : (fs : List Field) (at k : ℕ) (v : List ℕ) → Bytes v → at + k + width fs ≤ length v → RowStands fs at k (row_in fs at k v) v
stand_back [] at k v h room = tt
stand_back (f ∷ fs) at k v h room =
    (put-got f v (from at k) h (rw (from_is at k) (omega arith)), stand_back fs at (k + wide f) v h (omega arith))

fit_back : (fs : List Field) (at k : ℕ) (v : List ℕ) → Bytes v → at + k + width fs ≤ length v → AllFit fs (row_in fs at k v)
fit_back [] at k v h room = tt
fit_back (f ∷ fs) at k v h room =
    (got-fits f v (from at k) h (rw (from_is at k) (omega arith)), fit_back fs at (k + wide f) v h (omega arith))

-- the bytes of a row decide what is read
told : (fs : List Field) (at k : ℕ) (v w : List ℕ) → part (at + k) (width fs) v ≡ part (at + k) (width fs) w → row_in fs at k v ≡ row_in fs at k w
told [] at k v w e = refl
told (f ∷ fs) at k v w e =
    let piece : (a n b : ℕ) → a + n ≤ wide f + width fs → at + k + a ≡ b → part b n v ≡ part b n w =
    λ a n b h q. rw (← q)
    (sym (part-part a n (at + k) (wide f + width fs) v h) ∙ ap (λ (l : List ℕ). part a n l) e ∙ part-part a n (at + k) (wide f + width fs) w h) in
    let first = ap (λ (l : List ℕ). got f l) (piece 0 (wide f) (from at k) (omega arith) (rw (from_is at k) (omega arith))) in
    let rest = told fs at (k + wide f) v w (piece (wide f) (width fs) (at + (k + wide f)) (omega arith) (omega arith)) in
    λ i. (first i, rest i)

-- fields stored one by one are the row stored
stored : (fs : List Field) (at k : ℕ) (vs : Values fs) (v : List ℕ) → AllLong fs vs → storing fs at k vs v ≡ sets v (from at k) (row fs vs)
stored [] at k vs v h = refl
stored (f ∷ fs) at k vs v h =
    let next : from at k + length (put f vs.0) ≡ from at (k + wide f) = rw (from_is at k, from_is at (k + wide f), length-put f vs.0 h.0) (omega arith) in
    stored fs at (k + wide f) vs.1 (sets v (from at k) (put f vs.0)) h.1
    ∙ sym (sets-append v (from at k) (put f vs.0) (row fs vs.1) (from at (k + wide f)) next)

-- the four laws of a whole row
module _ (fs : List Field) (at : ℕ) where
  whole : (v : List ℕ) → part (at + 0) (width fs) v ≡ part at (width fs) v
  whole v = rw (add-zero at)

  -- stored, then read
  pub row_read : (v : List ℕ) (vs : Values fs) → AllFit fs vs → at + width fs ≤ length v → row_in fs at 0 (sets v at (row fs vs)) ≡ vs
  row_read v vs h room =
      let long = all-long fs vs h in
      let w = sets v at (row fs vs) in
      let stands : row fs vs ≡ part (at + 0) (width fs) w = sym (whole w ∙ part-sets v at (width fs) (row fs vs) (length-row fs vs long) room) in
      read_back fs at 0 vs w h (apart fs at 0 vs w long stands)

  -- read, then stored
  pub row_back : (v : List ℕ) → Bytes v → at + width fs ≤ length v → row fs (row_in fs at 0 v) ≡ part at (width fs) v
  row_back v h room = joined fs at 0 (row_in fs at 0 v) v (stand_back fs at 0 v h (omega arith)) ∙ whole v

  pub row_fits : (v : List ℕ) → Bytes v → at + width fs ≤ length v → AllFit fs (row_in fs at 0 v)
  row_fits v h room = fit_back fs at 0 v h (omega arith)

  pub row_told : (v w : List ℕ) → part at (width fs) v ≡ part at (width fs) w → row_in fs at 0 v ≡ row_in fs at 0 w
  row_told v w e = told fs at 0 v w (whole v ∙ e ∙ sym (whole w))

  pub row-stored : (v : List ℕ) (vs : Values fs) → AllLong fs vs → storing fs at 0 vs v ≡ sets v at (row fs vs)
  row-stored v vs h = stored fs at 0 vs v h

-- fields stored one by one over all of z
pub row_made : (fs : List Field) (z : List ℕ) (vs : Values fs) → AllLong fs vs → length z ≡ width fs → storing fs 0 0 vs z ≡ row fs vs
row_made fs z vs h e = row-stored fs 0 z vs h ∙ sets-full z (row fs vs) (length-row fs vs h ∙ sym e)

-- the bytes of a row, read
pub row_only : (fs : List Field) (vs : Values fs) → AllFit fs vs → row_in fs 0 0 (row fs vs) ≡ vs
row_only fs vs h =
    let long = all-long fs vs h in
    let e : take (width fs) (row fs vs) ≡ row fs vs = rw (← length-row fs vs long) (take_all (length (row fs vs)) (row fs vs) (omega arith)) in
    read_back fs 0 0 vs (row fs vs) h (apart fs 0 0 vs (row fs vs) long (sym e))
