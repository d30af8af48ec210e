-- The fleet's line, put piece by piece, and how long it can be.
use mathlib.Core.Path.{◌≡◌, sym, ap, ◌∙◌}
use mathlib.Core.Bool.{Bool, true, false}
use mathlib.Core.List.{List, [], ◌∷◌, ◌++◌, append_assoc}
use Rattle.std.specs.Prelude.{Ok, Err}
use Prim.Native.Nat.{ℕ, ◌≤◌}
use native.Mathlib.Omega.{arith}
use lib.Dec.{eqb}
use lib.ListN.{length, take, length-append}
use lib.Seq.{length-sets, length-take-le}
use borrow.Author.Tests.{eq-eqb, ne_eqb}
use Rattle.base.specs.Pick.{pick}
use Rattle.line.specs.Decimal.{decimal}
use Rattle.line.specs.Lines.{Put, newline}
use Rattle.line.proofs.PutLaws.{decimal-le}
use Rattle.standings.specs.Standing.{standing_text}
use Rattle.standings.proofs.StandingLaws.{standing_le}
use Rattle.totals.specs.declared.Fleet.{Fleet}
use Rattle.fleets.specs.Gathered.{Gathered}
use Rattle.fleets.specs.Gathered as G
use Rattle.fleets.specs.Texts.{t_drives, t_last, t_open}
use Rattle.fleets.specs.Lines.{gathered_in, open_line, closed_line, printed, fleet_line}

pub open_joins : (k : ℕ) → (t_open ++ decimal k) ++ newline ≡ open_line k
unfolding open_line
open_joins k = append_assoc t_open (decimal k) newline

seven : (a b c d e f g : List ℕ) → ((((a ++ b) ++ c) ++ d) ++ (e ++ f)) ++ g ≡ a ++ (b ++ (c ++ (d ++ (e ++ (f ++ g)))))
seven a b c d e f g = simp append_assoc

pub closed_joins : (f : Fleet)
    → ((((t_drives ++ decimal f.drives) ++ (32 ∷ [])) ++ standing_text f.total) ++ (t_last ++ decimal f.last)) ++ newline ≡ closed_line f
unfolding closed_line
closed_joins f = seven t_drives (decimal f.drives) (32 ∷ []) (standing_text f.total) t_last (decimal f.last) newline

open_le : (k : ℕ) → length (open_line k) ≤ 140
unfolding open_line
open_le k = simp length-append (omega (arith, decimal-le k))

closed_le : (f : Fleet) → length (closed_line f) ≤ 140
unfolding closed_line
closed_le f = simp length-append (omega (arith, decimal-le f.drives, standing_le f.total, decimal-le f.last))

printed-le : (g : Gathered) → length (printed g) ≤ 140
printed-le (Ok f) = go (eqb f.drives 0)
  where
    go : (x : Bool) → length (pick x (open_line 0) (closed_line f)) ≤ 140
    go true = open_le 0
    go false = closed_le f
printed-le (Err o) = open_le o.line

-- the line by what was gathered
pub printed_open : (i : List ℕ) (k : ℕ) {g : Gathered} → g ≡ gathered_in i → g ≡ G.Open k → open_line k ≡ fleet_line i
unfolding fleet_line
printed_open i k {g} e o = rw (sym e ∙ o)

pub printed-none : (i : List ℕ) (f : Fleet) {g : Gathered} → g ≡ gathered_in i → g ≡ G.Whole f → f.drives ≡ 0 → open_line 0 ≡ fleet_line i
unfolding fleet_line
printed-none i f {g} e w z = rw (sym e ∙ w, eq-eqb f.drives 0 z)

pub printed_closed : (i : List ℕ) (f : Fleet) {g : Gathered} → g ≡ gathered_in i → g ≡ G.Whole f → (f.drives ≡ 0 → ⊥) → closed_line f ≡ fleet_line i
unfolding fleet_line
printed_closed i f {g} e w z = rw (sym e ∙ w, ne_eqb f.drives 0 z)

-- it stands whole in 192 bytes
pub fleet_short : (i : List ℕ) → length (fleet_line i) ≤ 140
unfolding fleet_line
fleet_short i = printed-le (gathered_in i)

pub fleet_fits : (i : List ℕ) {s x : List ℕ} {k : ℕ} → 192 ≤ length s → Put s 0 (fleet_line i) k x → (k ≤ length x) × (k ≡ length (take k x))
fleet_fits i {s} {x} {k} h f =
    let long : length x ≡ length s = ap length f.stored ∙ length-sets s 0 (fleet_line i) in
    let fits : k ≤ length x = omega (arith, f.behind, fleet_short i) in
    (fits, sym (length-take-le k x fits))
