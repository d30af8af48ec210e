use mathlib.Core.Path.{ap, ◌∙◌}
use Prim.Native.Nat.{ℕ, ◌+◌, ◌*◌, ◌%◌}
use Rattle.limbs.specs.Limbs.{value, p}
use Rattle.limbs.proofs.TurnLaws.{sums_value}
use Rattle.limbs.proofs.turn_at.Goals as goal

pub returns : goal.returns
returns c =
    let a = c.args in
    record {
      same =
          c.mul.ensures.same
          ∙ ap (λ (z : ℕ). z * value a.by.r % p)
          (sums_value c.add.ensures ∙ ap (λ (z : ℕ). value a.h + z) c.number.ensures.whole);
      loose = c.mul.ensures.loose;
    }
