-- A row of fields, `name=value` with a space between two, is read back; so is the sheet's line.
use mathlib.Core.Path.{◌≡◌, refl, sym, ap, ◌∙◌}
use mathlib.Core.Bool.{Bool, true, false}
use mathlib.Core.List.{List, [], ◌∷◌, ◌++◌, append-nil}
use Prim.Native.Nat.{ℕ, zero, suc, ◌/◌, ◌%◌, ◌^◌, ◌<◌}
use native.Mathlib.Omega.{arith}
use lib.Dec.{eqb}
use Rattle.base.specs.Pick.{both}
use Rattle.base.specs.Lists.{every}
use Rattle.base.proofs.PickLaws.{no, both-on, both_left, both_right}
use Rattle.line.specs.Decimal.{decimal}
use Rattle.line.specs.Lines.{share_text, report_text}
use Rattle.line.specs.Reading.{up_to, past, field_at, decimal_value}
use Rattle.line.proofs.ReadLaws.{free, free-append, up_to_lem, up_to_end, past-free, past_to, Far, decimal-free, far_newline, far_space, decimal_value_lem}

-- name and value
abbrev pub Named : Type 0
Named = List ℕ × List ℕ

-- fields, and a last one
unfoldable pub fields_text : List Named → Named → List ℕ
fields_text [] (name, x) = name ++ (61 ∷ x)
fields_text ((name, x) ∷ fs) l = name ++ (61 ∷ (x ++ (32 ∷ fields_text fs l)))

-- the value of field k; there is none behind the last
unfoldable pub value_at : ℕ → List Named → Named → List ℕ
value_at zero [] l = l.1
value_at (suc k) [] l = []
value_at zero (f ∷ fs) l = f.1
value_at (suc k) (f ∷ fs) l = value_at k fs l

-- no name has a mark in it, and no value a space
abbrev pub plain : Named → Bool
plain f = both (free 61 f.0) (both (free 32 f.0) (free 32 f.1))

pub field-last : (name x : List ℕ) → free 61 name ≡ true → free 32 x ≡ true → field_at 0 (name ++ (61 ∷ x)) ≡ x
unfolding field_at
field-last name x p q = rw (past_to 61 name x p) (up_to_end 32 x q)

field-here : (name x rest : List ℕ) → free 61 name ≡ true → free 32 x ≡ true → field_at 0 (name ++ (61 ∷ (x ++ (32 ∷ rest)))) ≡ x
unfolding field_at
field-here name x rest p q = rw (past_to 61 name (x ++ (32 ∷ rest)) p) (up_to_lem 32 x rest q)

field_next : (k : ℕ) (name x rest : List ℕ) → free 32 name ≡ true → free 32 x ≡ true → field_at (suc k) (name ++ (61 ∷ (x ++ (32 ∷ rest)))) ≡ field_at k rest
unfolding field_at free
field_next k name x rest p q =
    ap (λ (l : List ℕ). field_at k l) (past-free 32 name (61 ∷ (x ++ (32 ∷ rest))) p ∙ past-free 32 (61 ∷ []) (x ++ (32 ∷ rest)) refl ∙ past_to 32 x rest q)

field-none : (k : ℕ) → field_at k [] ≡ []
unfolding field_at past up_to
field-none zero = refl
field-none (suc k) = field-none k

field-behind : (k : ℕ) (name x : List ℕ) → free 32 name ≡ true → free 32 x ≡ true → field_at (suc k) (name ++ (61 ∷ x)) ≡ []
unfolding field_at past free
field-behind k name x p q =
    let end : past 32 (x ++ []) ≡ [] = past-free 32 x [] q in
    let none : past 32 x ≡ [] = rw (append-nil x) at end in
    ap (λ (l : List ℕ). field_at k l) (past-free 32 name (61 ∷ x) p ∙ past-free 32 (61 ∷ []) x refl ∙ none) ∙ field-none k

pub fields_told : (k : ℕ) (fs : List Named) (l : Named) → every plain fs ≡ true → plain l ≡ true → field_at k (fields_text fs l) ≡ value_at k fs l
unfolding fields_text value_at every
fields_told zero [] (name, x) p q =
    field-last name x (both_left (free 61 name) _ q) (both_right (free 32 name) _ (both_right (free 61 name) _ q))
fields_told (suc k) [] (name, x) p q =
    let r = both_right (free 61 name) _ q in
    field-behind k name x (both_left (free 32 name) _ r) (both_right (free 32 name) _ r)
fields_told zero ((name, x) ∷ fs) l p q =
    let h = both_left (plain (name, x)) _ p in
    field-here name x (fields_text fs l) (both_left (free 61 name) _ h) (both_right (free 32 name) _ (both_right (free 61 name) _ h))
fields_told (suc k) ((name, x) ∷ fs) l p q =
    let h = both_right (free 61 name) _ (both_left (plain (name, x)) _ p) in
    field_next k name x (fields_text fs l) (both_left (free 32 name) _ h) (both_right (free 32 name) _ h)
    ∙ fields_told k fs l (both_right (plain (name, x)) _ p) q

-- neither name nor value has a byte c
abbrev pub without : ℕ → Named → Bool
without c f = both (free c f.0) (free c f.1)

pub fields_free : (c : ℕ) (fs : List Named) (l : Named) → eqb 61 c ≡ false → eqb 32 c ≡ false → every (without c) fs ≡ true → without c l ≡ true
    → free c (fields_text fs l) ≡ true
unfolding fields_text every free
fields_free c [] (name, x) m s p q =
    free-append c name (61 ∷ x) (both_left (free c name) _ q) (no _ m (both_right (free c name) _ q))
fields_free c ((name, x) ∷ fs) l m s p q =
    let h = both_left (without c (name, x)) _ p in
    free-append c name _ (both_left (free c name) _ h)
    (no _ m
    (free-append c x _ (both_right (free c name) _ h) (no _ s (fields_free c fs l m s (both_right (without c (name, x)) _ p) q))))

-- a share has digits and a point
pub share-free : (c h : ℕ) → Far c → eqb 46 c ≡ false → free c (share_text h) ≡ true
unfolding share_text free
share-free c h far p =
    free-append c (decimal (h / 100)) _ (decimal-free c (h / 100) far) (no _ p (no _ (far (h / 10 % 10) (omega arith)) (no _ (far (h % 10) (omega arith)) refl)))

-- the sheet's line is a row
abbrev row : (n m l k h : ℕ) → List Named
row n m l k h =
    (110 ∷ 117 ∷ 103 ∷ 103 ∷ 101 ∷ 116 ∷ 115 ∷ [], decimal n)
    ∷ (109 ∷ 111 ∷ 118 ∷ 101 ∷ 100 ∷ [], decimal m)
    ∷ (108 ∷ 101 ∷ 102 ∷ 116 ∷ [], decimal l)
    ∷ (102 ∷ 108 ∷ 97 ∷ 107 ∷ 101 ∷ 115 ∷ [], decimal k)
    ∷ (115 ∷ 104 ∷ 97 ∷ 114 ∷ 101 ∷ [], share_text h)
    ∷ []

abbrev end : ℕ → Named
end d = (100 ∷ 111 ∷ 110 ∷ 101 ∷ [], decimal d)

module _ (n m l k h d : ℕ) where
  row_is : fields_text (row n m l k h) (end d) ≡ report_text n m l k h d
  unfolding fields_text report_text
  row_is = refl

  row_plain : every plain (row n m l k h) ≡ true
  unfolding every free
  row_plain =
      both-on (decimal-free 32 n far_space)
      (both-on (decimal-free 32 m far_space)
      (both-on (decimal-free 32 l far_space) (both-on (decimal-free 32 k far_space) (both-on (share-free 32 h far_space refl) refl))))

  end_plain : plain (end d) ≡ true
  unfolding free
  end_plain = decimal-free 32 d far_space

  field_is : (i : ℕ) → field_at i (report_text n m l k h d) ≡ value_at i (row n m l k h) (end d)
  field_is i = ap (λ (t : List ℕ). field_at i t) (sym row_is) ∙ fields_told i (row n m l k h) (end d) row_plain end_plain

  -- it has no newline inside
  pub report-free : free 10 (report_text n m l k h d) ≡ true
  unfolding every free
  report-free =
      let r : every (without 10) (row n m l k h) ≡ true = both-on (decimal-free 10 n far_newline) (both-on (decimal-free 10 m far_newline) (both-on (decimal-free 10 l far_newline) (both-on (decimal-free 10 k far_newline) (both-on (share-free 10 h far_newline refl) refl)))) in
      rw row_is at (fields_free 10 (row n m l k h) (end d) refl refl r (decimal-free 10 d far_newline))

  -- its numbers are read back
  pub nuggets-told : n < 10 ^ 10 → decimal_value (field_at 0 (report_text n m l k h d)) ≡ n
  unfolding value_at
  nuggets-told s = ap decimal_value (field_is 0) ∙ decimal_value_lem n s

  pub moved_told : m < 10 ^ 10 → decimal_value (field_at 1 (report_text n m l k h d)) ≡ m
  unfolding value_at
  moved_told s = ap decimal_value (field_is 1) ∙ decimal_value_lem m s

  pub flakes_told : k < 10 ^ 10 → decimal_value (field_at 3 (report_text n m l k h d)) ≡ k
  unfolding value_at
  flakes_told s = ap decimal_value (field_is 3) ∙ decimal_value_lem k s

  pub done_told : d < 10 ^ 10 → decimal_value (field_at 5 (report_text n m l k h d)) ≡ d
  unfolding value_at
  done_told s = ap decimal_value (field_is 5) ∙ decimal_value_lem d s
