-- The head's bytes, piece by piece.
use mathlib.Core.Path.{◌≡◌, refl, sym, ◌∙◌}
use mathlib.Core.List.{List, [], ◌∷◌, ◌++◌, append_assoc}
use Prim.Native.Nat.{ℕ, ◌+◌, ◌-◌, ◌≤◌}
use mathlib.Core.Bool.{true, false}
use mathlib.Core.Logic.{◌⊎◌, inl, inr}
use lib.Dec.{eqb}
use borrow.Author.Tests.{eq-eqb, ne_eqb, eqb-true, eqb-false}
use Rattle.base.proofs.PickLaws.{told, both_left}
use Rattle.layout.specs.Shape.{in_limits}
use Rattle.drive.specs.declared.Drive.{Drive}
use Rattle.drive.specs.Drive.{shape_of}
use Rattle.drive.specs.Head.{kind_byte, numbers_of, check_in, front_row, front_in, front_from}
use Rattle.codec.specs.Row.{starts}
use Rattle.drive.specs.Opening.{in_form, state_fits}
use native.Mathlib.Omega.{arith}
use lib.ListN.{length, length-append, take, drop}
use native.Mathlib.Nat.{add-sub_cancel_left}
use Rattle.base.specs.Lists.{same, part}
use lib.Seq.{sets}
use Rattle.base.proofs.PartLaws.{sets-append, sets-full}

-- "0-2 `NGT`; 3-4 version 1; 5 state and cipher; 6-7 epoch; 8-11 N; 12-13 P; 14-15 F; 16-31 salt; 32-39 counter; 40-71 old-secret check"
pub places : starts 0 front_row ≡ 0 ∷ 3 ∷ 5 ∷ 6 ∷ 8 ∷ 12 ∷ 14 ∷ 16 ∷ 32 ∷ 40 ∷ []
places = refl

-- front and seal stored one behind the other over all of z
pub two-pieces : (z a b : List ℕ) → length a ≡ 72 → length b ≡ 32 → length z ≡ 104 → sets (sets z 0 a) 72 b ≡ a ++ b
two-pieces z a b ha hb hz = sym (sets-append z 0 a b 72 (omega arith)) ∙ sets-full z (a ++ b) (simp length-append (omega arith))

-- the code's pieces of the front are its row
pub front_pieces_lem : (d : Drive) → front_from (numbers_of d.version d.n d.p d.f (kind_byte d) d.epoch) d.salt d.counter (check_in d) ≡ front_in d
unfolding numbers_of front_in
front_pieces_lem d = simp append_assoc

-- the epoch being left, as the code compares it
pub left_test : (left epoch : ℕ) → 2 ≤ epoch → eqb (left + 1) epoch ≡ eqb left (epoch - 1)
left_test left epoch h = go (told (eqb left (epoch - 1)))
  where
    go : (eqb left (epoch - 1) ≡ true) ⊎ (eqb left (epoch - 1) ≡ false) → eqb (left + 1) epoch ≡ eqb left (epoch - 1)
    go (inl e) = eq-eqb (left + 1) epoch (omega (arith, eqb-true left (epoch - 1) e)) ∙ sym e
    go (inr e) = ne_eqb (left + 1) epoch (λ q. eqb-false left (epoch - 1) e (omega arith)) ∙ sym e

-- a drive that passes test 1 has a shape in limits
pub form_limits : (d : Drive) → in_form d ≡ true → in_limits (shape_of d) ≡ true
unfolding in_form
form_limits d e = both_left (in_limits (shape_of d)) (state_fits d.state d.epoch) e

-- the 32 bytes that the code compares are the node's
pub node-part : (v node : List ℕ) (at k : ℕ) → at ≡ k → same (take (at + 32 - at) (drop at v)) node ≡ same (part k 32 v) node
node-part v node at k e = rw (e, add-sub_cancel_left k 32)
