-- A row: fields of fixed width, one behind the other. A field is a little-endian number or a string of bytes.
use Prim.{Unit, tt}
use Rattle.std.specs.Prelude.{ℕ, zero, suc, ◌+◌, ◌^◌, ◌<◌, ◌≡◌, List, [], ◌∷◌, ◌++◌, length}
use Rattle.std.proofs.lemmas.List.Edits.{sets}
use Rattle.base.specs.Lists.{part}
use Rattle.words.specs.Le.{num, le}

pub data Field : Type 0 where
  number : ℕ → Field
  string : ℕ → Field

abbrev pub wide : Field → ℕ
wide (number k) = k
wide (string k) = k

-- what a field holds, as bytes and read from bytes
abbrev pub Value : Field → Type 0
Value (number k) = ℕ
Value (string k) = List ℕ

abbrev pub put : (f : Field) → Value f → List ℕ
put (number k) x = le k x
put (string k) l = l

abbrev pub got : (f : Field) → List ℕ → Value f
got (number k) l = num l
got (string k) l = l

-- its bytes are as many as the field is wide, and it is read back
abbrev pub FieldLong : (f : Field) → Value f → Type 0
FieldLong (number k) x = Unit {0}
FieldLong (string k) l = length l ≡ k

abbrev pub FieldFits : (f : Field) → Value f → Type 0
FieldFits (number k) x = x < 256 ^ k
FieldFits (string k) l = length l ≡ k

-- the same of a row: a value for each field
abbrev pub Values : List Field → Type 0
Values [] = Unit {0}
Values (f ∷ fs) = Value f × Values fs

-- one value and the rest: a & b & c & tt
infixr 40 ◌&◌
abbrev pub ◌&◌ : {A B : Type 0} → A → B → A × B
a & b = (a, b)

abbrev pub AllLong : (fs : List Field) → Values fs → Type 0
AllLong [] vs = Unit {0}
AllLong (f ∷ fs) vs = FieldLong f vs.0 × AllLong fs vs.1

abbrev pub AllFit : (fs : List Field) → Values fs → Type 0
AllFit [] vs = Unit {0}
AllFit (f ∷ fs) vs = FieldFits f vs.0 × AllFit fs vs.1

abbrev pub width : List Field → ℕ
width [] = 0
width (f ∷ fs) = wide f + width fs

-- where each field starts, from offset k on
abbrev pub starts : ℕ → List Field → List ℕ
starts k [] = []
starts k (f ∷ fs) = k ∷ starts (k + wide f) fs

-- the bytes of a row
abbrev pub row : (fs : List Field) → Values fs → List ℕ
row [] vs = []
row (f ∷ fs) vs = put f vs.0 ++ row fs vs.1

-- offset k from a place; at offset 0 the place itself
abbrev pub from : ℕ → ℕ → ℕ
from at zero = at
from at (suc k) = at + suc k

-- the values of the row at a place of a list, its fields from offset k on
abbrev pub row_in : (fs : List Field) → ℕ → ℕ → List ℕ → Values fs
row_in [] at k v = tt
row_in (f ∷ fs) at k v = (got f (part (from at k) (wide f) v), row_in fs at (k + wide f) v)

-- the list after the fields were stored there one by one
abbrev pub storing : (fs : List Field) → ℕ → ℕ → Values fs → List ℕ → List ℕ
storing [] at k vs v = v
storing (f ∷ fs) at k vs v = storing fs at (k + wide f) vs.1 (sets v (from at k) (put f vs.0))

-- each field's bytes stand at its place
abbrev pub RowStands : (fs : List Field) → ℕ → ℕ → Values fs → List ℕ → Type 0
RowStands [] at k vs v = Unit {0}
RowStands (f ∷ fs) at k vs v = (put f vs.0 ≡ part (from at k) (wide f) v) × RowStands fs at (k + wide f) vs.1 v
