-- "Classes: answers 1 to 3 form, 4 to 6 key, 7 altered, 8 to 12 request, 13 to 15 spent." 14 is the number of no refusal (document 02,
-- Item 7); "16 (class request)" (Item 6).
use Rattle.std.specs.Prelude.{ℕ, eqb, leb, Option, Some, None}
use Rattle.base.specs.Pick.{pick}
use Rattle.answers.specs.declared.Class.{Class}
use Rattle.answers.specs.declared.Class.TheVariants as C

-- a number that is no refusal has no class
unfoldable pub class_of : ℕ → Option Class
class_of n =
    pick (leb n 0) None
    (pick (leb n 3) (Some C.Form)
    (pick (leb n 6) (Some C.Key)
    (pick (leb n 7) (Some C.Altered)
    (pick (leb n 12) (Some C.Request) (pick (eqb n 13) (Some C.Spent) (pick (eqb n 15) (Some C.Spent) (pick (eqb n 16) (Some C.Request) None)))))))
