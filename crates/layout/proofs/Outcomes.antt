-- No second outcome meets the words of a public function: each theorem is over its own `ensures`.
use mathlib.Core.Path.{refl}
use Rattle.base.specs.Outcome.{OneOutcome}
use Rattle.base.proofs.OutcomeLaws.{agree}
use Rattle.layout.proofs as fn
use Rattle.layout.specs.contracts as said

pub in_limits : OneOutcome said.in_limits.ended fn.in_limits.Reads.Post
in_limits κs a x y u v p q = (agree p q, refl)

pub known_version : OneOutcome said.known_version.ended fn.known_version.Reads.Post
known_version κs a x y u v p q = (agree p q, refl)

pub width_of : OneOutcome said.width_of.ended fn.width_of.Reads.Post
width_of κs a x y u v p q = (agree p q, refl)

pub height_of : OneOutcome said.height_of.ended fn.height_of.Reads.Post
height_of κs a x y u v p q = (agree p q, refl)

pub leaves_of : OneOutcome said.leaves_of.ended fn.leaves_of.Reads.Post
leaves_of κs a x y u v p q = (agree p q, refl)

pub tags_at : OneOutcome said.tags_at.ended fn.tags_at.Reads.Post
tags_at κs a x y u v p q = (agree p q, refl)

pub tree_at : OneOutcome said.tree_at.ended fn.tree_at.Reads.Post
tree_at κs a x y u v p q = (agree p q, refl)

pub flakes_at : OneOutcome said.flakes_at.ended fn.flakes_at.Reads.Post
flakes_at κs a x y u v p q = (agree p q, refl)

pub capacity_of : OneOutcome said.capacity_of.ended fn.capacity_of.Reads.Post
capacity_of κs a x y u v p q = (agree p q, refl)

pub length_of : OneOutcome said.length_of.ended fn.length_of.Reads.Post
length_of κs a x y u v p q = (agree p q, refl)

pub record_at : OneOutcome said.record_at.ended fn.record_at.Reads.Post
record_at κs a x y u v p q = (agree p q, refl)

pub tag_at : OneOutcome said.tag_at.ended fn.tag_at.Reads.Post
tag_at κs a x y u v p q = (agree p q, refl)

pub node_at : OneOutcome said.node_at.ended fn.node_at.Reads.Post
node_at κs a x y u v p q = (agree p q, refl)

pub flake_at : OneOutcome said.flake_at.ended fn.flake_at.Reads.Post
flake_at κs a x y u v p q = (agree p q, refl)

pub spot_of : OneOutcome said.spot_of.ended fn.spot_of.Reads.Post
spot_of κs a x y u v p q = (agree p q, refl)

pub offset_of : OneOutcome said.offset_of.ended fn.offset_of.Reads.Post
offset_of κs a x y u v p q = (agree p q, refl)
