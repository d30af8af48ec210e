use mathlib.Core.Path.{ap, ◌∙◌}
use Prim.Native.Nat.{ℕ}
use native.Mathlib.Omega.{arith}
use lib.Seq.{sets}
use Rattle.layout.proofs.Places.{record_room}
use Rattle.records.specs.Record.{record_bytes}
use Rattle.records.proofs.store.Goals as goal

pub store_at-requires : goal.store_at-requires
store_at-requires c =
    omega (arith, c.record_at.ensures, record_room c.args.n c.requires.0 c.requires.1)

pub returns : goal.returns
returns c =
    let a = c.args in
    c.store_at.ensures ∙ ap (λ (x : ℕ). sets a.vol.now x (record_bytes a.s a.r)) c.record_at.ensures
