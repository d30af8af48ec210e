-- Document 01's own lines, by computation.
use mathlib.Core.Path.{◌≡◌, refl}
use mathlib.Core.List.{[], ◌∷◌}
use Rattle.answers.specs.Answer as A
use Rattle.answers.specs.declared.Place.TheVariants as P
use Rattle.answers.specs.Classes.{class_of}
use Rattle.line.specs.Decimal.{digits, width_in, decimal}
use Rattle.line.specs.Lines.{share_text, report_text, report_line, refusal_line}

-- `nuggets=3 moved=1 left=2 flakes=2 share=50.00 done=1`
pub half : report_line 3 1 2 2 5000 1 ≡ 110 ∷ 117 ∷ 103 ∷ 103 ∷ 101 ∷ 116 ∷ 115 ∷ 61 ∷ 51 ∷ 32 ∷ 109 ∷ 111 ∷ 118 ∷ 101 ∷ 100 ∷ 61 ∷ 49 ∷ 32 ∷ 108 ∷ 101 ∷ 102 ∷ 116 ∷ 61 ∷ 50 ∷ 32 ∷ 102 ∷ 108 ∷ 97 ∷ 107 ∷ 101 ∷ 115 ∷ 61 ∷ 50 ∷ 32 ∷ 115 ∷ 104 ∷ 97 ∷ 114 ∷ 101 ∷ 61 ∷ 53 ∷ 48 ∷ 46 ∷ 48 ∷ 48 ∷ 32 ∷ 100 ∷ 111 ∷ 110 ∷ 101 ∷ 61 ∷ 49 ∷ 10 ∷ []
unfolding report_text share_text decimal digits width_in
half = refl

-- `nuggets=10000 moved=10000 left=0 flakes=0 share=100.00 done=0`
pub all : report_line 10000 10000 0 0 10000 0 ≡ 110 ∷ 117 ∷ 103 ∷ 103 ∷ 101 ∷ 116 ∷ 115 ∷ 61 ∷ 49 ∷ 48 ∷ 48 ∷ 48 ∷ 48 ∷ 32 ∷ 109 ∷ 111 ∷ 118 ∷ 101 ∷ 100 ∷ 61 ∷ 49 ∷ 48 ∷ 48 ∷ 48 ∷ 48 ∷ 32 ∷ 108 ∷ 101 ∷ 102 ∷ 116 ∷ 61 ∷ 48 ∷ 32 ∷ 102 ∷ 108 ∷ 97 ∷ 107 ∷ 101 ∷ 115 ∷ 61 ∷ 48 ∷ 32 ∷ 115 ∷ 104 ∷ 97 ∷ 114 ∷ 101 ∷ 61 ∷ 49 ∷ 48 ∷ 48 ∷ 46 ∷ 48 ∷ 48 ∷ 32 ∷ 100 ∷ 111 ∷ 110 ∷ 101 ∷ 61 ∷ 48 ∷ 10 ∷ []
unfolding report_text share_text decimal digits width_in
all = refl

-- `nuggets=1 moved=0 left=1 flakes=0 share=0.00 done=0`
pub none : report_line 1 0 1 0 0 0 ≡ 110 ∷ 117 ∷ 103 ∷ 103 ∷ 101 ∷ 116 ∷ 115 ∷ 61 ∷ 49 ∷ 32 ∷ 109 ∷ 111 ∷ 118 ∷ 101 ∷ 100 ∷ 61 ∷ 48 ∷ 32 ∷ 108 ∷ 101 ∷ 102 ∷ 116 ∷ 61 ∷ 49 ∷ 32 ∷ 102 ∷ 108 ∷ 97 ∷ 107 ∷ 101 ∷ 115 ∷ 61 ∷ 48 ∷ 32 ∷ 115 ∷ 104 ∷ 97 ∷ 114 ∷ 101 ∷ 61 ∷ 48 ∷ 46 ∷ 48 ∷ 48 ∷ 32 ∷ 100 ∷ 111 ∷ 110 ∷ 101 ∷ 61 ∷ 48 ∷ 10 ∷ []
unfolding report_text share_text decimal digits width_in
none = refl

-- `refused=6 class=key`
pub counter : refusal_line A.Counter ≡ 114 ∷ 101 ∷ 102 ∷ 117 ∷ 115 ∷ 101 ∷ 100 ∷ 61 ∷ 54 ∷ 32 ∷ 99 ∷ 108 ∷ 97 ∷ 115 ∷ 115 ∷ 61 ∷ 107 ∷ 101 ∷ 121 ∷ 10 ∷ []
unfolding refusal_line class_of decimal digits width_in
counter = refl

-- `refused=7 class=altered place=record 2`
pub at_record : refusal_line (A.Altered (P.Record 2)) ≡ 114 ∷ 101 ∷ 102 ∷ 117 ∷ 115 ∷ 101 ∷ 100 ∷ 61 ∷ 55 ∷ 32 ∷ 99 ∷ 108 ∷ 97 ∷ 115 ∷ 115 ∷ 61 ∷ 97 ∷ 108 ∷ 116 ∷ 101 ∷ 114 ∷ 101 ∷ 100 ∷ 32 ∷ 112 ∷ 108 ∷ 97 ∷ 99 ∷ 101 ∷ 61 ∷ 114 ∷ 101 ∷ 99 ∷ 111 ∷ 114 ∷ 100 ∷ 32 ∷ 50 ∷ 10 ∷ []
unfolding refusal_line class_of decimal digits width_in
at_record = refl

-- `refused=7 class=altered place=flake 2 1`
pub at-flake : refusal_line (A.Altered (P.Flake 2 1)) ≡ 114 ∷ 101 ∷ 102 ∷ 117 ∷ 115 ∷ 101 ∷ 100 ∷ 61 ∷ 55 ∷ 32 ∷ 99 ∷ 108 ∷ 97 ∷ 115 ∷ 115 ∷ 61 ∷ 97 ∷ 108 ∷ 116 ∷ 101 ∷ 114 ∷ 101 ∷ 100 ∷ 32 ∷ 112 ∷ 108 ∷ 97 ∷ 99 ∷ 101 ∷ 61 ∷ 102 ∷ 108 ∷ 97 ∷ 107 ∷ 101 ∷ 32 ∷ 50 ∷ 32 ∷ 49 ∷ 10 ∷ []
unfolding refusal_line class_of decimal digits width_in
at-flake = refl

-- `refused=11 class=request`
pub some_left : refusal_line (A.Left 5) ≡ 114 ∷ 101 ∷ 102 ∷ 117 ∷ 115 ∷ 101 ∷ 100 ∷ 61 ∷ 49 ∷ 49 ∷ 32 ∷ 99 ∷ 108 ∷ 97 ∷ 115 ∷ 115 ∷ 61 ∷ 114 ∷ 101 ∷ 113 ∷ 117 ∷ 101 ∷ 115 ∷ 116 ∷ 10 ∷ []
unfolding refusal_line class_of decimal digits width_in
some_left = refl

-- `refused=13 class=spent`
pub top : refusal_line A.CounterTop ≡ 114 ∷ 101 ∷ 102 ∷ 117 ∷ 115 ∷ 101 ∷ 100 ∷ 61 ∷ 49 ∷ 51 ∷ 32 ∷ 99 ∷ 108 ∷ 97 ∷ 115 ∷ 115 ∷ 61 ∷ 115 ∷ 112 ∷ 101 ∷ 110 ∷ 116 ∷ 10 ∷ []
unfolding refusal_line class_of decimal digits width_in
top = refl
