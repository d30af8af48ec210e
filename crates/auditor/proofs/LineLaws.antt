-- The fields of a line are read back.
use mathlib.Core.Path.{◌≡◌, refl, ap, ◌∙◌}
use mathlib.Core.Bool.{Bool, true, false}
use mathlib.Core.List.{List, [], ◌∷◌}
use Prim.Native.Nat.{ℕ, ◌^◌, ◌<◌, ◌≤◌}
use lib.Dec.{eqb}
use Rattle.base.specs.Pick.{pick}
use Rattle.base.specs.Lists.{every}
use Rattle.base.proofs.PickLaws.{both-on}
use Rattle.records.specs.declared.Record.{Record}
use Rattle.drive.specs.declared.Drive.{Drive}
use Rattle.drive.specs.Drive.{is_changing}
use Rattle.line.specs.Decimal.{decimal, long_decimal}
use Rattle.line.specs.Reading.{field_at, decimal_value}
use Rattle.line.proofs.ReadLaws.{free, free-append, decimal-free, long-free, far_newline, far_space, decimal_value_lem, long-value}
use Rattle.line.proofs.FieldLaws.{Named, fields_text, value_at, plain, without, field-last, fields_told, fields_free}
use Rattle.pages.specs.Words.{t_new, t_old, t_present, t_counter, t_secret, t_needed, t_free}
use Rattle.pages.specs.Page.{key_text, present_flakes, flakes_text, nugget_text, counter_text, old_state, old_text}
use Rattle.auditor.specs.Reading.{flakes_read, line_read}
use Rattle.auditor.proofs.ReadLaws.{flakes-free, flakes-back}
use Rattle.auditor.proofs.ListLaws.{short-flakes}

-- the fields of a nugget's line, and the last one
abbrev fields : List ℕ → List ℕ → List ℕ → List ℕ → List Named
fields a b c d =
    (110 ∷ 117 ∷ 103 ∷ 103 ∷ 101 ∷ 116 ∷ [], a)
    ∷ (107 ∷ 101 ∷ 121 ∷ [], b)
    ∷ (101 ∷ 112 ∷ 111 ∷ 99 ∷ 104 ∷ [], c)
    ∷ (107 ∷ 101 ∷ 121 ∷ 99 ∷ 111 ∷ 117 ∷ 110 ∷ 116 ∷ [], d)
    ∷ []

abbrev last : List ℕ → Named
last e = (102 ∷ 108 ∷ 97 ∷ 107 ∷ 101 ∷ 115 ∷ [], e)

key-free : (x : ℕ) (d : Drive) (e : ℕ) → free x t_new ≡ true → free x t_present ≡ true → free x t_old ≡ true → free x (key_text d e) ≡ true
unfolding key_text
key-free x d e p q r = go (eqb e d.epoch) (is_changing d.state)
  where
    go : (a b : Bool) → free x (pick a (pick b t_new t_present) t_old) ≡ true
    go true true = p
    go true false = q
    go false b = r

-- what a nugget's line tells
pub record LineTold (d : Drive) (r : Record) (n : ℕ) : Type 0 where
  pub newlines : free 10 (nugget_text d r n) ≡ true
  pub nugget : (line_read (nugget_text d r n)).nugget ≡ n
  pub key : (line_read (nugget_text d r n)).key ≡ key_text d r.epoch
  pub epoch : (line_read (nugget_text d r n)).epoch ≡ r.epoch
  pub keycount : (line_read (nugget_text d r n)).keycount ≡ r.keycount
  pub flakes : (line_read (nugget_text d r n)).flakes ≡ present_flakes d.p r.held

pub line-told : (d : Drive) (r : Record) (n : ℕ) → n < 10 ^ 10 → r.epoch < 10 ^ 10 → r.keycount < 10 ^ 20 → d.p ≤ 10 ^ 10 → LineTold d r n
unfolding nugget_text free fields_text value_at every
line-told d r n hn he hk hp =
    let present = present_flakes d.p r.held in
    let a = decimal n in
    let b = key_text d r.epoch in
    let c = decimal r.epoch in
    let q = long_decimal r.keycount in
    let e = flakes_text present in
    let fa = decimal-free 32 n far_space in
    let fb = key-free 32 d r.epoch refl refl refl in
    let fc = decimal-free 32 r.epoch far_space in
    let fq = long-free 32 r.keycount far_space in
    let fe = flakes-free 32 present far_space refl refl in
    let fs = fields a b c q in
    let plain-fields : every plain fs ≡ true = both-on fa (both-on fb (both-on fc (both-on fq refl))) in
    let field : (k : ℕ) → field_at k (fields_text fs (last e)) ≡ value_at k fs (last e) = λ k. fields_told k fs (last e) plain-fields fe in
    let newlines : every (without 10) fs ≡ true = both-on (decimal-free 10 n far_newline) (both-on (key-free 10 d r.epoch refl refl refl) (both-on (decimal-free 10 r.epoch far_newline) (both-on (long-free 10 r.keycount far_newline) refl))) in
    record {
      newlines = fields_free 10 fs (last e) refl refl newlines (flakes-free 10 present far_newline refl refl);
      nugget = ap decimal_value (field 0) ∙ decimal_value_lem n hn;
      key = field 1;
      epoch = ap decimal_value (field 2) ∙ decimal_value_lem r.epoch he;
      keycount = ap decimal_value (field 3) ∙ long-value r.keycount hk;
      flakes = ap flakes_read (field 4) ∙ flakes-back present (short-flakes d.p r.held hp);
    }

-- what the counter's line tells
pub counter_told_lem : (k : ℕ) → k < 10 ^ 20 → decimal_value (field_at 0 (counter_text k)) ≡ k
unfolding free
counter_told_lem k h =
    ap decimal_value (field-last (99 ∷ 111 ∷ 117 ∷ 110 ∷ 116 ∷ 101 ∷ 114 ∷ []) (long_decimal k) refl (long-free 32 k far_space)) ∙ long-value k h

pub counter-free : (k : ℕ) → free 10 (counter_text k) ≡ true
unfolding free
counter-free k = free-append 10 t_counter (long_decimal k) refl (long-free 10 k far_newline)

-- what the last line tells
state-free : (x : ℕ) (d : Drive) → free x t_needed ≡ true → free x t_free ≡ true → free x (old_state d) ≡ true
unfolding old_state
state-free x d p q = go (is_changing d.state)
  where
    go : (b : Bool) → free x (pick b t_needed t_free) ≡ true
    go true = p
    go false = q

pub old_told_lem : (d : Drive) → field_at 0 (old_text d) ≡ pick (is_changing d.state) t_needed t_free
unfolding old_state free
old_told_lem d = field-last t_old (old_state d) refl (state-free 32 d refl refl)

pub old_line-free : (d : Drive) → free 10 (old_text d) ≡ true
unfolding free
old_line-free d = free-append 10 t_secret (old_state d) refl (state-free 10 d refl refl)
