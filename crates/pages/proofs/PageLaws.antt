-- Laws of the page's texts: how the loops put them together, and how long they can be.
use mathlib.Core.Path.{◌≡◌, sym, ◌∙◌}
use mathlib.Core.Bool.{Bool, true, false}
use mathlib.Core.List.{List, [], ◌∷◌, ◌++◌, append_assoc, append-nil}
use Prim.Native.Nat.{ℕ, zero, suc, ◌+◌, ◌*◌, ◌≤◌, ◌<◌}
use native.Mathlib.Numerals.{add-one}
use native.Mathlib.Omega.{arith}
use lib.Dec.{eqb, lit≤}
use lib.ListN.{length, length-append}
use borrow.Author.Tests.{eq-eqb, ne_eqb}
use Rattle.base.specs.Pick.{pick}
use Rattle.records.specs.Journal.{bit}
use Rattle.records.specs.declared.Record.{Record}
use Rattle.records.specs.Record.{record_of}
use Rattle.layout.specs.declared.Shape.{Shape}
use Rattle.drive.specs.declared.Drive.{Drive}
use Rattle.drive.specs.Drive.{shape_of, is_changing}
use Rattle.line.specs.Decimal.{decimal, long_decimal, width_in}
use Rattle.line.specs.Texts.{t_flakes}
use Rattle.line.specs.Lines.{Put, newline}
use Rattle.line.proofs.DecimalLaws.{length_digits, width-le, width_same}
use Rattle.line.specs.declared.Page.{Page}
use Rattle.line.specs.Pages.{Puts}
use Rattle.line.proofs.PutLaws.{decimal-le, long-le}
use Rattle.line.proofs.PageLaws.{puts_then, puts_as, puts-none}
use Rattle.pages.specs.Words.{t_nugget, t_key_is, t_new, t_old, t_present, t_epoch, t_keycount, t_counter, t_secret, t_needed, t_free, t_none}
use Rattle.pages.specs.Page.{key_text, present_flakes, others, flakes_text, sign_for, with_signs, nugget_text, nugget_line, nugget_lines, counter_text, counter_line, old_state, old_line, drive_text}

-- the list is empty
abbrev pub none : List ℕ → Bool
none [] = true
none (f ∷ fs) = false

others_more : (fs : List ℕ) (f : ℕ) → others (fs ++ (f ∷ [])) ≡ others fs ++ (44 ∷ decimal f)
unfolding others
others_more [] f = append-nil (44 ∷ decimal f)
others_more (a ∷ fs) f = rw (others_more fs f) (sym (append_assoc (44 ∷ decimal a) (others fs) (44 ∷ decimal f)))

-- one flake more, behind its mark
signs_more : (fs : List ℕ) (f : ℕ) → with_signs (fs ++ (f ∷ [])) ≡ with_signs fs ++ (sign_for (none fs) ++ decimal f)
unfolding with_signs others
signs_more [] f = append-nil (61 ∷ decimal f)
signs_more (a ∷ fs) f = rw (others_more fs f) (sym (append_assoc (61 ∷ decimal a) (others fs) (44 ∷ decimal f)))

signs_next : (p j : ℕ) → with_signs (present_flakes (suc p) j) ≡ with_signs (present_flakes p j) ++ pick (bit j p) (sign_for (none (present_flakes p j)) ++ decimal p) []
unfolding present_flakes
signs_next p j = go (bit j p)
  where
    go : (b : Bool) → with_signs (present_flakes p j ++ pick b (p ∷ []) []) ≡ with_signs (present_flakes p j) ++ pick b (sign_for (none (present_flakes p j)) ++ decimal p) []
    go true = signs_more (present_flakes p j) p
    go false = rw (append-nil (present_flakes p j), append-nil (with_signs (present_flakes p j)))

-- nothing is put exactly if the list is empty
pub first_is : (fs : List ℕ) {s x : List ℕ} {at next : ℕ} → Put s at (with_signs fs) next x → eqb next at ≡ none fs
unfolding with_signs
first_is [] {s} {x} {at} {next} f = eq-eqb next at (f.behind ∙ omega arith)
first_is (a ∷ fs) {s} {x} {at} {next} f =
    ne_eqb next at (λ e. omega (arith, e, f.behind, length-append (61 ∷ decimal a) (others fs)))

-- a turn of the loop over the flakes
pub signs_turn : (p j : ℕ) {a b c : Page} → Puts a (with_signs (present_flakes p j)) b → Puts b (pick (bit j p) (sign_for (eqb b.at a.at) ++ decimal p) []) c
    → Puts a (with_signs (present_flakes (p + 1) j)) c
signs_turn p j {a} {b} {c} f g =
    let h : Puts b (pick (bit j p) (sign_for (none (present_flakes p j)) ++ decimal p) []) c = rw (first_is (present_flakes p j) f.put) at g in
    rw (add-one p) (puts_as _ _ (sym (signs_next p j)) (puts_then _ _ f h))

pub signs_start : (a : Page) (j : ℕ) → Puts a (with_signs (present_flakes 0 j)) a
unfolding present_flakes with_signs
signs_start a j = puts-none a

-- a flake below 100 has two digits at most
two_digits : (f : ℕ) → f < 100 → length (decimal f) ≤ 2
unfolding decimal
two_digits f h = rw (length_digits (width_in 9 f) f, ← width_same 1 9 f (lit≤ tt) h) (width-le 1 f)

pub signs_le : (p j : ℕ) → p ≤ 100 → length (with_signs (present_flakes p j)) ≤ 3 * p
unfolding present_flakes with_signs
signs_le zero j h = omega arith
signs_le (suc p) j h = rw (signs_next p j) (go (bit j p) (none (present_flakes p j)) (signs_le p j (omega arith)))
  where
    go : (b c : Bool) → length (with_signs (present_flakes p j)) ≤ 3 * p → length (with_signs (present_flakes p j) ++ pick b (sign_for c ++ decimal p) []) ≤ 3 * suc p
    go true true l = omega (arith, length-append (with_signs (present_flakes p j)) (61 ∷ decimal p), two_digits p (omega arith))
    go true false l = omega (arith, length-append (with_signs (present_flakes p j)) (44 ∷ decimal p), two_digits p (omega arith))
    go false c l = omega (arith, length-append (with_signs (present_flakes p j)) [])

-- the list behind its `=`: with no flake the mark and the dash are still to be put
pub flakes-none : (fs : List ℕ) {a b c : Page} → Puts a (with_signs fs) b → b.at ≡ a.at → Puts b (61 ∷ t_none) c → Puts a (61 ∷ flakes_text fs) c
unfolding with_signs flakes_text
flakes-none [] f e g = puts_then [] _ f g
flakes-none (b ∷ fs) f e g = absurd (omega (arith, e, f.put.behind, length-append (61 ∷ decimal b) (others fs)))

pub flakes-some : (fs : List ℕ) {a b : Page} → Puts a (with_signs fs) b → (b.at ≡ a.at → ⊥) → Puts a (61 ∷ flakes_text fs) b
unfolding with_signs flakes_text
flakes-some [] f n = absurd (n (omega (arith, f.put.behind)))
flakes-some (b ∷ fs) f n = f

-- the key's word, by the epoch and the state
pub key_new : (d : Drive) (e : ℕ) → e ≡ d.epoch → is_changing d.state ≡ true → t_key_is ++ t_new ≡ t_key_is ++ key_text d e
unfolding key_text
key_new d e h c = rw (eq-eqb e d.epoch h, c)

pub key-present : (d : Drive) (e : ℕ) → e ≡ d.epoch → is_changing d.state ≡ false → t_key_is ++ t_present ≡ t_key_is ++ key_text d e
unfolding key_text
key-present d e h c = rw (eq-eqb e d.epoch h, c)

pub key-old : (d : Drive) (e : ℕ) → (e ≡ d.epoch → ⊥) → t_key_is ++ t_old ≡ t_key_is ++ key_text d e
unfolding key_text
key-old d e h = rw (ne_eqb e d.epoch h)

-- how far the pieces of a nugget's line reach
pub key-le : (d : Drive) (e : ℕ) → length (t_key_is ++ key_text d e) ≤ 12
unfolding key_text
key-le d e = go (eqb e d.epoch) (is_changing d.state)
  where
    go : (a b : Bool) → length (t_key_is ++ pick a (pick b t_new t_present) t_old) ≤ 12
    go true true = lit≤ tt
    go true false = lit≤ tt
    go false b = lit≤ tt

pub flakes-le : (p j : ℕ) → p ≤ 64 → length (t_flakes ++ flakes_text (present_flakes p j)) ≤ 201
unfolding with_signs flakes_text
flakes-le p j h = go (present_flakes p j) (signs_le p j (omega arith))
  where
    go : (fs : List ℕ) → length (with_signs fs) ≤ 3 * p → length (t_flakes ++ flakes_text fs) ≤ 201
    go [] l = lit≤ tt
    go (f ∷ fs) l = omega (arith, length-append (decimal f) (others fs), length-append (61 ∷ decimal f) (others fs), length-append t_flakes (decimal f ++ others fs))

-- the pieces of a line, joined as the code puts them
eleven : (a b c d e f g h i j k : List ℕ)
    → ((((((a ++ b) ++ (c ++ d)) ++ (e ++ f)) ++ g) ++ h) ++ (i ++ j)) ++ k ≡ (a ++ (b ++ (c ++ (d ++ (e ++ (f ++ (g ++ (h ++ (i ++ j))))))))) ++ k
eleven a b c d e f g h i j k = simp append_assoc

pub nugget_text_lem : (d : Drive) (r : Record) (n : ℕ)
    → ((((((t_nugget ++ decimal n) ++ (t_key_is ++ key_text d r.epoch)) ++ (t_epoch ++ decimal r.epoch)) ++ t_keycount) ++ long_decimal r.keycount) ++ (t_flakes ++ flakes_text (present_flakes d.p r.held))) ++ newline
    ≡ nugget_line d r n
unfolding nugget_text
nugget_text_lem d r n =
    eleven t_nugget (decimal n) t_key_is (key_text d r.epoch) t_epoch (decimal r.epoch) t_keycount (long_decimal r.keycount) t_flakes (flakes_text (present_flakes d.p r.held)) newline

pub line-le : (d : Drive) (r : Record) (n : ℕ) → d.p ≤ 64 → length (nugget_line d r n) ≤ 300
line-le d r n h =
    rw (← nugget_text_lem d r n) (simp length-append (omega (
      arith,
      decimal-le n,
      decimal-le r.epoch,
      long-le r.keycount,
      length-append t_key_is (key_text d r.epoch),
      key-le d r.epoch,
      length-append t_flakes (flakes_text (present_flakes d.p r.held)),
      flakes-le d.p r.held h,
    )))

pub lines_le : (d : Drive) (v : List ℕ) (k : ℕ) → d.p ≤ 64 → length (nugget_lines d v k) ≤ 300 * k
unfolding nugget_lines
lines_le d v zero h = omega arith
lines_le d v (suc k) h =
    omega (arith, length-append (nugget_lines d v k) (nugget_line d (record_of (shape_of d) v k) k), lines_le d v k h, line-le d (record_of (shape_of d) v k) k h)

-- the loop over the nuggets
pub lines_start : (d : Drive) (v : List ℕ) (a : Page) → Puts a (nugget_lines d v 0) a
unfolding nugget_lines
lines_start d v a = puts-none a

pub lines_turn : (d : Drive) (v : List ℕ) (n : ℕ) {a b c : Page} {z : Shape} {r : Record} → Puts a (nugget_lines d v n) b → z ≡ shape_of d → r ≡ record_of z v n
    → Puts b (nugget_line d r n) c → Puts a (nugget_lines d v (n + 1)) c
unfolding nugget_lines
lines_turn d v n {b = b} {c = c} f ea er g =
    let h : Puts b (nugget_line d (record_of (shape_of d) v n) n) c = rw (er, ea) at g in
    rw (add-one n) (puts_then _ _ f h)

-- the last two lines
pub counter-le : (outside : ℕ) → length (counter_line outside) ≤ 29
counter-le outside =
    omega (arith, length-append (counter_text outside) newline, length-append t_counter (long_decimal outside), long-le outside)

pub old_needed : (d : Drive) → is_changing d.state ≡ true → (t_secret ++ t_needed) ++ newline ≡ old_line d
unfolding old_state
old_needed d c = rw c

pub old-free : (d : Drive) → is_changing d.state ≡ false → (t_secret ++ t_free) ++ newline ≡ old_line d
unfolding old_state
old-free d c = rw c

pub old-le : (d : Drive) → length (old_line d) ≤ 11
unfolding old_state
old-le d = go (is_changing d.state)
  where
    go : (b : Bool) → length ((t_secret ++ pick b t_needed t_free) ++ newline) ≤ 11
    go true = lit≤ tt
    go false = lit≤ tt

pub drive_text_lem : (d : Drive) (v : List ℕ) (outside : ℕ) → (nugget_lines d v d.n ++ counter_line outside) ++ old_line d ≡ drive_text d v outside
unfolding drive_text
drive_text_lem d v outside = append_assoc (nugget_lines d v d.n) (counter_line outside) (old_line d)

-- how long the pieces may be
pub ruleset far = (length-append, decimal-le, long-le, key-le, flakes-le, line-le, counter-le, old-le)
