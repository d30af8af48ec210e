use mathlib.Core.Path.{ap, sym, ◌∙◌}
use Prim.Native.Nat.{ℕ, ◌+◌, ◌*◌, ◌/◌, ◌^◌}
use native.Mathlib.Nat.{add-zero}
use lib.ListN.{get_or}
use Rattle.words.specs.Le.{le}
use Rattle.limbs.specs.Limbs.{p}
use Rattle.limbs.proofs.TurnLaws.{sums_value}
use Rattle.limbs.proofs.Quads.{laid, le-quad, quad-over}
use Rattle.limbs.proofs.total.Goals as goal

pub returns : goal.returns
returns c =
    let a = get_or c.unpack.result 0 0 in
    let b = get_or c.unpack.result 1 0 in
    let d = get_or c.unpack.result 2 0 in
    let e = get_or c.unpack.result 3 0 in
    let words = c.unpack.ensures in
    let x = c.ripple in
    let top = x.result.top in
    let left = x.result.low.l4 / 2 ^ 24 in
    let sum =
    sym (sums_value c.add.ensures)
    ∙ (rw add-zero at x.ensures.whole)
    ∙ ap (λ (z : ℕ). z + (p + 5) * top) words.whole
    ∙ quad-over a b d e left top in
    rw (c.store32-4.ensures, c.store32-3.ensures, c.store32-2.ensures, c.store32.ensures, laid a b d e)
    (sym (ap (le 16) sum ∙ le-quad a b d e (left + 4 * top) words.ba words.bb words.bc words.bd))
