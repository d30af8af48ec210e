-- Requests as bytes, for hosts in C: "16 bytes each, offset and length".
use Rattle.std.specs.Prelude.{ℕ, ◌*◌, ◌/◌, ◌%◌, List, [], ◌∷◌, eqb, length}
use Rattle.base.specs.Pick.{pick}
use Rattle.base.specs.Lists.{tab}
use Rattle.codec.specs.Row.{Field, number, Values, row_in}
use Rattle.answers.specs.Answer.{Answer}
use Rattle.answers.specs.Answer as A
use Rattle.answers.specs.Stages.{and_then}
use Rattle.drive.specs.declared.Drive.{Drive}
use Rattle.queues.specs.declared.Request.{Request}
use Rattle.queues.specs.declared.Queued.{Queued}
use Rattle.queues.specs.Queue.{measure_by, After, none_done, queued_by, queue_after}

-- offset, length
abbrev pub request_row : List Field
request_row = number 8 ∷ number 8 ∷ []

abbrev pub request_from : Values request_row → Request
request_from (o, (n, _)) = record { offset = o; length = n }

-- the request whose bytes stand at a place
unfoldable pub request_at : List ℕ → ℕ → Request
request_at image at = request_from (row_in request_row at 0 image)

-- all of them
abbrev pub requests_in : List ℕ → List Request
requests_in image = tab (length image / 16) (λ i. request_at image (i * 16))

-- "A list length that is no multiple of 16 is answered 8 (after 1, 2) with 0 done."
abbrev pub uneven : Drive → List ℕ → Answer
uneven d v = and_then (measure_by d (length v)) A.PastEnd

abbrev pub uneven_after : Drive → List ℕ → After
uneven_after d v = none_done d v (uneven d v)

unfoldable pub images_after : Drive → List ℕ → List ℕ → List ℕ → After
images_after d v image bytes = pick (eqb (length image % 16) 0) (queue_after d v (requests_in image) bytes) (uneven_after d v)

abbrev pub images_done : Drive → List ℕ → List ℕ → List ℕ → Queued
images_done d v image bytes = queued_by (images_after d v image bytes)

abbrev pub images_volume : Drive → List ℕ → List ℕ → List ℕ → List ℕ
images_volume d v image bytes = (images_after d v image bytes).vol
