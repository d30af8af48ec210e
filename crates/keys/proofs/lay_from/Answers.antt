use mathlib.Core.Path.{◌∙◌}
use Prim.Native.Nat.{◌%◌, ◌<◌}
use native.Mathlib.Nat.{mod-lt}
use native.Mathlib.Omega.{arith}
use Rattle.keys.specs.Pads.{unit_of}
use Rattle.keys.proofs.CipherLaws.{lawful, unit-le}
use Rattle.keys.proofs.StreamLaws.{pad_from_lem}
use Rattle.keys.proofs.lay_from.Goals as goal

pub nonzero_rem-b : goal.nonzero_rem-b
nonzero_rem-b c = rw c.unit_of.ensures (lawful c.args.lock.cipher).some

pub lay_stream-requires : goal.lay_stream-requires
lay_stream-requires c =
    let a = c.args in
    let skip : a.b % unit_of a.lock.cipher < unit_of a.lock.cipher = mod-lt a.b (lawful a.lock.cipher).some in
    (c.block_of-n.ensures.1, rw c.unit_of.ensures (omega (arith, skip, unit-le a.lock.cipher)), omega (arith, c.requires.0, c.requires.2))

pub returns : goal.returns
returns c =
    let a = c.args in
    c.lay_stream.ensures ∙ rw (c.block_of-n.ensures.0, c.unit_of.ensures) (pad_from_lem a.lock a.f a.size a.b a.d.now c.requires.2)
