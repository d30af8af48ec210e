use mathlib.Core.Path.{◌∙◌}
use Prim.Native.Nat.{◌/◌, ◌<◌}
use lib.ListN.{length}
use native.Mathlib.Omega.{arith}
use Rattle.queues.proofs.ImageLaws.{count, request-listed}
use Rattle.queues.proofs.ImagesRequests.request.Goals as goal

pub overflow_mul-i : goal.overflow_mul-i
overflow_mul-i c =
    let images = c.args.self.now.bytes.now in
    omega (arith, count images, c.requires)

pub request_at-requires : goal.request_at-requires
request_at-requires c =
    let images = c.args.self.now.bytes.now in
    omega (arith, count images, c.requires)

pub returns : goal.returns
returns c =
    let images = c.args.self.now.bytes.now in
    let h : c.args.i < length images / 16 = omega (arith, count images, c.requires) in
    c.request_at.ensures ∙ request-listed images c.args.i h
