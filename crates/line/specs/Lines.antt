-- Document 01, "The sheet program": the one line that it prints.
use Rattle.std.specs.Prelude.{ℕ, ◌+◌, ◌/◌, ◌%◌, ◌≡◌, length, List, [], ◌∷◌, ◌++◌, Option, None, Some}
use Rattle.std.proofs.lemmas.List.Edits.{sets}
use Rattle.answers.specs.Answer.{Answer}
use Rattle.answers.specs.declared.Carried.{Carried}
use Rattle.answers.specs.declared.Carried.TheVariants as K
use Rattle.answers.specs.declared.Class.{Class}
use Rattle.answers.specs.declared.Class.TheVariants as C
use Rattle.answers.specs.declared.Place.{Place}
use Rattle.answers.specs.declared.Place.TheVariants as P
use Rattle.answers.specs.Numbers.{number_of, carried_of}
use Rattle.answers.specs.Classes.{class_of}
use Rattle.line.specs.Decimal.{decimal}
use Rattle.line.specs.Texts.{t_nuggets, t_moved, t_left, t_flakes, t_share, t_done, t_refused, t_class, t_form, t_key, t_altered, t_request, t_spent, t_head, t_record, t_node, t_flake}

-- the text is stored at a place, and nothing else changes; next is the place behind it
pub record Put (s : List ℕ) (at : ℕ) (text : List ℕ) (next : ℕ) (last : List ℕ) : Type 0 where
  pub behind : next ≡ at + length text
  pub stored : last ≡ sets s at text

abbrev pub newline : List ℕ
newline = 10 ∷ []

-- the share of hundredths of a percent, "shown with two decimals"
unfoldable pub share_text : ℕ → List ℕ
share_text h = decimal (h / 100) ++ (46 ∷ (48 + h / 10 % 10) ∷ (48 + h % 10) ∷ [])

-- `nuggets=3 moved=1 left=2 flakes=2 share=50.00 done=1`: document 02, Item 11: "The sheet line gains a last column, present
-- flakes in moved nuggets (`done=`)."
unfoldable pub report_text : ℕ → ℕ → ℕ → ℕ → ℕ → ℕ → List ℕ
report_text n moved left flakes share done =
    t_nuggets ++ (decimal n ++ (t_moved ++ (decimal moved ++ (t_left ++ (decimal left ++ (t_flakes ++ (decimal flakes ++ (t_share ++ (share_text share ++ (t_done ++ decimal done))))))))))

abbrev pub report_line : ℕ → ℕ → ℕ → ℕ → ℕ → ℕ → List ℕ
report_line n moved left flakes share done = report_text n moved left flakes share done ++ newline

-- "Classes: answers 1 to 3 form, 4 to 6 key, 7 altered, 8 to 12 request, 13 to 15 spent."
abbrev pub class_text : Option Class → List ℕ
class_text None = []
class_text (Some C.Form) = t_form
class_text (Some C.Key) = t_key
class_text (Some C.Altered) = t_altered
class_text (Some C.Request) = t_request
class_text (Some C.Spent) = t_spent

-- "Answer 7 adds ` place=head`, ` place=record 2`, ` place=node 5` or ` place=flake 2 1`."
abbrev pub place_text : Place → List ℕ
place_text P.Head = t_head
place_text (P.Record n) = t_record ++ decimal n
place_text (P.Node i) = t_node ++ decimal i
place_text (P.Flake n f) = (t_flake ++ decimal n) ++ (32 ∷ decimal f)

abbrev pub carried_text : Option Carried → List ℕ
carried_text None = []
carried_text (Some (K.At p)) = place_text p
carried_text (Some (K.Many k)) = []
carried_text (Some (K.Nugget n)) = []

-- `refused=6 class=key`
unfoldable pub refusal_line : Answer → List ℕ
refusal_line a = t_refused ++ (decimal (number_of a) ++ (t_class ++ (class_text (class_of (number_of a)) ++ (carried_text (carried_of a) ++ newline))))
