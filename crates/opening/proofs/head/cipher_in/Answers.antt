use Rattle.opening.proofs.MountLaws.{kind_byte}
use Prim.Native.Nat.{ℕ, ◌/◌, ◌*◌}
use mathlib.Core.Path.{sym, ap}
use Rattle.opening.proofs.head.cipher_in.Goals as goal

pub returns : goal.returns
returns c = ap (λ (x : ℕ). x / 16 * 16) (sym (kind_byte c.args.vol.now c.requires))
