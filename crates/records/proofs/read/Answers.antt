use mathlib.Core.Path.{ap, ◌∙◌}
use Prim.Native.Nat.{ℕ}
use native.Mathlib.Omega.{arith}
use Rattle.layout.proofs.Places.{record_room}
use Rattle.records.specs.Record.{record_in}
use Rattle.records.proofs.read.Goals as goal

pub read_at-requires : goal.read_at-requires
read_at-requires c =
    omega (arith, c.record_at.ensures, record_room c.args.n c.requires.0 c.requires.1)

pub returns : goal.returns
returns c =
    let a = c.args in
    c.read_at.ensures ∙ ap (λ (x : ℕ). record_in a.s x a.vol.now) c.record_at.ensures
