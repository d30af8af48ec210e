-- A page while it is written: each text goes to its place, and the next stands behind it.
use Rattle.std.specs.Prelude.{ℕ, ◌≡◌, List, length}
use Rattle.line.specs.declared.Page.{Page}
use Rattle.line.specs.Lines.{Put}

-- the text is put at the page's place; the page is what it was, and as long
pub record Puts (p : Page) (text : List ℕ) (q : Page) : Type 0 where
  pub same : q.out.ghost_name ≡ p.out.ghost_name
  pub lies : q.out.ref_ptr ≡ p.out.ref_ptr
  pub long : length q.out.now ≡ length p.out.now
  pub put : Put p.out.now p.at text q.at q.out.now
