-- Texts put on a page one behind the other are the joined text.
use Rattle.std.proofs.Common.{◌≡◌, ◌∙◌, refl, sym, List, [], ◌++◌, ℕ}
use Rattle.base.proofs.OutcomeLaws.{agree}
use Rattle.line.specs.declared.Page.{Page}
use Rattle.line.specs.Lines.{Put}
use Rattle.line.specs.Pages.{Puts}
use Rattle.line.proofs.PutLaws.{put_then, put-none, put_as}

pub puts_then : {p q r : Page} (a b : List ℕ) → Puts p a q → Puts q b r → Puts p (a ++ b) r
puts_then a b f g = record { same = g.same ∙ f.same; lies = g.lies ∙ f.lies; long = g.long ∙ f.long; put = put_then a b f.put g.put }

pub puts-none : (p : Page) → Puts p [] p
puts-none p = record { same = refl; lies = refl; long = refl; put = put-none p.out.now p.at }

pub puts_as : {p q : Page} (a b : List ℕ) → a ≡ b → Puts p a q → Puts p b q
puts_as a b e f = record { same = f.same; lies = f.lies; long = f.long; put = put_as a b e f.put }

-- what is put says all of the page behind it
pub put_alike : {p q r : Page} {a : List ℕ} → Puts p a q → Puts p a r → q ≡ r
put_alike f g =
    λ i. record {
      out = record { ref_ptr = agree f.lies g.lies i; ghost_name = agree f.same g.same i; now = agree f.put.stored g.put.stored i };
      at = agree f.put.behind g.put.behind i;
    }

-- what was lent for the page holds it in the end
pub puts_told : {p q : Page} {last : List ℕ} (a : List ℕ) → Puts p a q → (p.out.ghost_name ≡ q.out.ghost_name → last ≡ q.out.now) → Put p.out.now p.at a q.at last
puts_told a f told = record { behind = f.put.behind; stored = told (sym f.same) ∙ f.put.stored }
