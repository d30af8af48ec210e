-- Requests as bytes: each as it is loaded, how many they are, and a queue of them.
use mathlib.Core.Path.{◌≡◌, refl, sym, ap, ◌∙◌}
use mathlib.Core.List.{List}
use Prim.Native.Nat.{ℕ, ◌+◌, ◌*◌, ◌/◌, ◌%◌, ◌<◌}
use lib.ListN.{length, get_or}
use borrow.Author.Tests.{eq-eqb, ne_eqb}
use Rattle.base.specs.Lists.{part}
use Rattle.base.proofs.PickLaws.{yes, no}
use Rattle.base.proofs.TabLaws.{length-tab, get_or-tab}
use Rattle.words.specs.Le.{num}
use Rattle.drive.specs.declared.Drive.{Drive}
use Rattle.queues.specs.declared.Request.{Request}
use Rattle.queues.specs.declared.Queued.{Queued}
use Rattle.answers.specs.Answer.{Answer}
use Rattle.queues.specs.Queue.{no_request, queued_at, After, queued_by, queue_after, queue_done, queue_volume}
use Rattle.queues.specs.Images.{request_at, requests_in, uneven, uneven_after, images_after, images_done, images_volume}

abbrev request : ℕ → ℕ → Request
request o n = record { offset = o; length = n }

-- what is loaded at a place is the request there
pub request_loads : (images : List ℕ) (at : ℕ) {o n : ℕ} → o ≡ num (part at 8 images) → n ≡ num (part (at + 8) 8 images) → request o n ≡ request_at images at
unfolding request_at
request_loads images at p q = λ i. request (p i) (q i)

pub count : (images : List ℕ) → length (requests_in images) ≡ length images / 16
count images = length-tab (length images / 16) (λ i. request_at images (i * 16))

pub request-listed : (images : List ℕ) (i : ℕ) → i < length images / 16 → request_at images (i * 16) ≡ get_or (requests_in images) i no_request
request-listed images i h = sym (get_or-tab (length images / 16) (λ j. request_at images (j * 16)) i no_request h)

-- a list of requests as bytes is the queue of the requests that stand there, or is no multiple of 16 long
module _ (d : Drive) (v images bytes : List ℕ) where
  pub even : {x : Queued} {w : List ℕ} → length images % 16 ≡ 0 → (x ≡ queue_done d v (requests_in images) bytes) × (w ≡ queue_volume d v (requests_in images) bytes)
      → (x ≡ images_done d v images bytes) × (w ≡ images_volume d v images bytes)
  unfolding images_after
  even h e =
      let on : images_after d v images bytes ≡ queue_after d v (requests_in images) bytes = yes _ (eq-eqb (length images % 16) 0 h) refl in
      (e.0 ∙ sym (ap (λ (y : After). queued_by y) on), e.1 ∙ sym (ap (λ (y : After). y.vol) on))

  pub odd : {a : Answer} {x : Queued} → (length images % 16 ≡ 0 → ⊥) → a ≡ uneven d v → x ≡ queued_at a 0 d
      → (x ≡ images_done d v images bytes) × (v ≡ images_volume d v images bytes)
  unfolding images_after
  odd h e q =
      let off : images_after d v images bytes ≡ uneven_after d v = no _ (ne_eqb (length images % 16) 0 h) refl in
      (q ∙ ap (λ (z : Answer). queued_at z 0 d) e ∙ sym (ap (λ (y : After). queued_by y) off), sym (ap (λ (y : After). y.vol) off))
