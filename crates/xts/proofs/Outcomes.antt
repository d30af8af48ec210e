-- No second outcome meets the words of a public function: each theorem is over its own `ensures`.
use mathlib.Core.Path.{refl}
use denote.Param.Laws.{Laws}
use denote.RattleType.{RattleType}
use mir.Syntax.{Dict}
use Rattle.aes.specs.declared.Direction.{Ghosts}
use Rattle.base.specs.Outcome.{OneOutcome}
use Rattle.base.proofs.OutcomeLaws.{agree, ◌∥◌}
use Rattle.xts.proofs as fn
use Rattle.xts.specs.contracts as said

pub tweak : OneOutcome said.tweak.ended fn.tweak.Reads.Post
tweak κs a x y u v p q = (agree p q, refl)

pub over : (C : RattleType) (laws : Laws C) (ghosts : Ghosts C.Denot) (dict : Dict) → OneOutcome (said.over.ended C ghosts dict) (fn.over.Reads.Post C laws ghosts dict)
over C laws ghosts dict κs a x y u v p q = (refl, agree p q ∥ refl)

pub encrypt_from : OneOutcome said.encrypt_from.ended fn.encrypt_from.Reads.Post
encrypt_from κs a x y u v p q = (refl, agree p q ∥ refl)

pub decrypt_from : OneOutcome said.decrypt_from.ended fn.decrypt_from.Reads.Post
decrypt_from κs a x y u v p q = (refl, agree p q ∥ refl)

pub encrypt_sector : OneOutcome said.encrypt_sector.ended fn.encrypt_sector.Reads.Post
encrypt_sector κs a x y u v p q = (refl, agree p q ∥ refl)

pub decrypt_sector : OneOutcome said.decrypt_sector.ended fn.decrypt_sector.Reads.Post
decrypt_sector κs a x y u v p q = (refl, agree p q ∥ refl)
