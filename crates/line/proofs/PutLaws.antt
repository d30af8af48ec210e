-- Texts put one behind the other are the joined text.
use mathlib.Core.Path.{◌≡◌, refl, sym, ◌∙◌}
use mathlib.Core.List.{List, [], ◌∷◌, ◌++◌, append_assoc}
use Prim.Native.Nat.{ℕ, ◌+◌, ◌/◌, ◌%◌, ◌≤◌}
use native.Mathlib.Omega.{arith}
use lib.ListN.{length, length-append}
use lib.Dec.{lit≤}
use Rattle.std.specs.Prelude.{Option, None, Some}
use Rattle.base.proofs.PartLaws.{sets-append}
use Rattle.answers.specs.Numbers.{number_of, carried_of}
use Rattle.answers.specs.Classes.{class_of}
use Rattle.answers.specs.Answer.{Answer}
use Rattle.answers.specs.declared.Carried.{Carried}
use Rattle.answers.specs.declared.Carried.TheVariants as K
use Rattle.answers.specs.declared.Class.{Class}
use Rattle.answers.specs.declared.Class.TheVariants as C
use Rattle.answers.specs.declared.Place.{Place}
use Rattle.answers.specs.declared.Place.TheVariants as P
use Rattle.line.specs.Texts.{t_nuggets, t_moved, t_left, t_flakes, t_share, t_done, t_refused, t_class, t_record, t_node, t_flake}
use Rattle.line.specs.Lines.{Put, newline, share_text, class_text, place_text, carried_text, report_text, refusal_line}
use Rattle.line.specs.Decimal.{decimal, long_decimal, width_in}
use Rattle.line.proofs.DecimalLaws.{length_digits, width-le}

pub put_then : {s x y : List ℕ} {at a b : ℕ} (p q : List ℕ) → Put s at p a x → Put x a q b y → Put s at (p ++ q) b y
put_then {s} {x} {y} {at} {a} {b} p q f g =
    record {
      behind = g.behind ∙ rw (f.behind, length-append p q) (omega arith);
      stored = g.stored ∙ rw f.stored (sym (sets-append s at p q a (sym f.behind)));
    }

pub put-none : (s : List ℕ) (at : ℕ) → Put s at [] at s
put-none s at = record { behind = omega arith; stored = refl }

pub decimal-le : (n : ℕ) → length (decimal n) ≤ 10
unfolding decimal
decimal-le n = rw (length_digits (width_in 9 n) n) (width-le 9 n)

pub long-le : (n : ℕ) → length (long_decimal n) ≤ 20
unfolding long_decimal
long-le n = rw (length_digits (width_in 19 n) n) (width-le 19 n)

-- how far a share, a class and what an answer carries reach
pub share-le : (h : ℕ) → length (share_text h) ≤ 13
unfolding share_text
share-le h = omega (arith, length-append (decimal (h / 100)) (46 ∷ (48 + h / 10 % 10) ∷ (48 + h % 10) ∷ []), decimal-le (h / 100))

pub class_le : (k : Option Class) → length (class_text k) ≤ 7
class_le None = lit≤ tt
class_le (Some C.Form) = lit≤ tt
class_le (Some C.Key) = lit≤ tt
class_le (Some C.Altered) = lit≤ tt
class_le (Some C.Request) = lit≤ tt
class_le (Some C.Spent) = lit≤ tt

place-le : (p : Place) → length (place_text p) ≤ 40
place-le P.Head = lit≤ tt
place-le (P.Record n) = omega (arith, length-append t_record (decimal n), decimal-le n)
place-le (P.Node i) = omega (arith, length-append t_node (decimal i), decimal-le i)
place-le (P.Flake n f) =
    omega (arith, length-append (t_flake ++ decimal n) (32 ∷ decimal f), length-append t_flake (decimal n), decimal-le n, decimal-le f)

pub carried-le : (k : Option Carried) → length (carried_text k) ≤ 40
carried-le None = lit≤ tt
carried-le (Some (K.At p)) = place-le p
carried-le (Some (K.Many k)) = lit≤ tt
carried-le (Some (K.Nugget n)) = lit≤ tt

pub put_as : {s x : List ℕ} {at r : ℕ} (p q : List ℕ) → p ≡ q → Put s at p r x → Put s at q r x
put_as p q e f = record { behind = rw e at f.behind; stored = rw e at f.stored }

-- the pieces of a line, joined as the code puts them
twelve : (a b c d e f g h i j k l : List ℕ)
    → ((((((a ++ b) ++ (c ++ d)) ++ (e ++ f)) ++ (g ++ h)) ++ i) ++ j) ++ (k ++ l)
    ≡ a ++ (b ++ (c ++ (d ++ (e ++ (f ++ (g ++ (h ++ (i ++ (j ++ (k ++ l))))))))))
twelve a b c d e f g h i j k l = simp append_assoc

six : (a b c d e f : List ℕ) → ((((a ++ b) ++ c) ++ d) ++ e) ++ f ≡ a ++ (b ++ (c ++ (d ++ (e ++ f))))
six a b c d e f = simp append_assoc

pub report_joins : (n m l k h d : ℕ)
    → ((((((t_nuggets ++ decimal n) ++ (t_moved ++ decimal m)) ++ (t_left ++ decimal l)) ++ (t_flakes ++ decimal k)) ++ t_share) ++ share_text h) ++ (t_done ++ decimal d)
    ≡ report_text n m l k h d
unfolding report_text
report_joins n m l k h d =
    twelve t_nuggets (decimal n) t_moved (decimal m) t_left (decimal l) t_flakes (decimal k) t_share (share_text h) t_done (decimal d)

-- how far it reaches
pub report-le : (n m l k h d : ℕ) → length (report_text n m l k h d) ≤ 105
unfolding report_text
report-le n m l k h d =
    simp length-append (omega (arith, decimal-le n, decimal-le m, decimal-le l, decimal-le k, share-le h, decimal-le d))

pub refusal_text_lem : (a : Answer) (n : ℕ) (c : Option Class) (k : Option Carried) → n ≡ number_of a → c ≡ class_of n → k ≡ carried_of a
    → ((((t_refused ++ decimal n) ++ t_class) ++ class_text c) ++ carried_text k) ++ newline ≡ refusal_line a
unfolding refusal_line
refusal_text_lem a n c k e f g =
    rw (f, g, e) (six t_refused (decimal (number_of a)) t_class (class_text (class_of (number_of a))) (carried_text (carried_of a)) newline)

-- how long what is put may be
pub ruleset reaches = (length-append, decimal-le, share-le, class_le, carried-le, report-le)
