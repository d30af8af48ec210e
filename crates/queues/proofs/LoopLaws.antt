-- The loops over the requests: the lengths taken off what is left, and the writes one after another.
use mathlib.Core.Path.{◌≡◌, refl, sym, ap, ◌∙◌}
use mathlib.Core.Bool.{Bool, true, false}
use mathlib.Core.List.{List, ◌∷◌}
use mathlib.Core.Logic.{◌⊎◌, inl, inr}
use Prim.Native.Nat.{ℕ, suc, ◌+◌, ◌-◌, ◌≤◌, ◌<◌}
use native.Mathlib.Omega.{arith}
use lib.Dec.{eqb}
use lib.ListN.{length, get_or, drop, drop_of_length-le}
use lib.Seq.{drop-cons, drop-drop}
use borrow.Author.Tests.{eq-eqb, ne_eqb, eqb-true, eqb-false}
use Rattle.base.specs.Lists.{part}
use Rattle.base.proofs.PickLaws.{told}
use Rattle.base.proofs.PartLaws.{part_to}
use Rattle.answers.specs.Answer as A
use Rattle.answers.specs.Numbers.{accepts}
use Rattle.drive.specs.declared.Drive.{Drive}
use Rattle.drive.specs.declared.Done.{Done}
use Rattle.changes.specs.Write.{write_done, write_volume, write_pads}
use Rattle.writing.proofs.Refused.{write-refused}
use Rattle.queues.specs.declared.Request.{Request}
use Rattle.queues.specs.declared.Queued.{Queued}
use Rattle.queues.specs.Queue.{no_request, lengths_of, After, none_done, one_more, writes_from, queued_at, queued_by}
use Rattle.queues.proofs.QueueLaws.{writes-on, writes_stop}

next : (i : ℕ) → suc i ≡ i + 1
next i = omega arith

-- two tests of numbers that are equal together
together : (a b x y : ℕ) → (a ≡ b → x ≡ y) → (x ≡ y → a ≡ b) → eqb a b ≡ eqb x y
together a b x y f g = go (told (eqb a b))
  where
    go : (eqb a b ≡ true) ⊎ (eqb a b ≡ false) → eqb a b ≡ eqb x y
    go (inl e) = e ∙ sym (eq-eqb x y (f (eqb-true a b e)))
    go (inr e) = e ∙ sym (ne_eqb x y (λ h. eqb-false a b e (g h)))

-- a request at its turn
pub turn : (qs : List Request) (i : ℕ) {p : Request} → i < length qs → p ≡ get_or qs i no_request → drop i qs ≡ p ∷ drop (i + 1) qs
turn qs i {p} h e =
    drop-cons qs i no_request h ∙ ap (λ (z : Request). z ∷ drop (suc i) qs) (sym e) ∙ ap (λ (k : ℕ). p ∷ drop k qs) (next i)

module _ {p : Request} {qs rest : List Request} (e : qs ≡ p ∷ rest) where
  pub lengths-next : lengths_of qs ≡ p.length + lengths_of rest
  unfolding lengths_of
  lengths-next = ap (λ (l : List Request). lengths_of l) e

  -- the lengths add up to what is left
  pub adds-over : (left : ℕ) → left < p.length → false ≡ eqb (lengths_of qs) left
  adds-over left h = sym (ne_eqb _ _ (λ q. omega (arith, lengths-next, q, h)))

  pub adds-on : (left : ℕ) → p.length ≤ left → eqb (lengths_of rest) (left - p.length) ≡ eqb (lengths_of qs) left
  adds-on left h = together _ _ _ _ (λ q. omega (arith, lengths-next, q, h)) (λ q. omega (arith, lengths-next, q, h))

pub lengths-end : (qs : List Request) (i : ℕ) → length qs ≤ i → lengths_of (drop i qs) ≡ 0
unfolding lengths_of
lengths-end qs i h = ap (λ (l : List Request). lengths_of l) (drop_of_length-le qs h)

pub adds-end : (qs : List Request) (i left : ℕ) → length qs ≤ i → eqb left 0 ≡ eqb (lengths_of (drop i qs)) left
adds-end qs i left h = together _ _ _ _ (λ q. omega (arith, lengths-end qs i h, q)) (λ q. omega (arith, lengths-end qs i h, q))

-- what is handed back, and the volume, if `done` writes are followed by those of y
abbrev pub Ends : After → ℕ → After → Type 0
Ends whole done y = (queued_at y.answer (done + y.done) y.drive ≡ queued_by whole) × (y.vol ≡ whole.vol)

pub ends-first : (x : After) → Ends x 0 x
ends-first x = (let e : 0 + x.done ≡ x.done = omega arith in ap (λ (k : ℕ). queued_at x.answer k x.drive) e, refl)

-- no request is left
pub ends-last : (whole : After) (qs : List Request) (d : Drive) (v bytes : List ℕ) (i : ℕ) {n : ℕ} {x : Queued} → length qs ≤ i → n ≡ i
    → x ≡ queued_at A.Accepted n d → Ends whole i (writes_from d v (drop i qs) bytes) → (x ≡ queued_by whole) × (v ≡ whole.vol)
unfolding writes_from
ends-last whole qs d v bytes i {n} h en ex from =
    let was : writes_from d v (drop i qs) bytes ≡ none_done d v A.Accepted = ap (λ (l : List Request). writes_from d v l bytes) (drop_of_length-le qs h) in
    let k : n ≡ i + 0 = omega (arith, en) in (
      ex ∙ ap (λ (j : ℕ). queued_at A.Accepted j d) k ∙ sym (ap (λ (y : After). queued_at y.answer (i + y.done) y.drive) was) ∙ from.0,
      sym (ap (λ (y : After). y.vol) was) ∙ from.1,
    )

-- a request, as the write that was made of it
module _ (whole : After) {p : Request} {qs rest : List Request} (e : qs ≡ p ∷ rest) (d : Drive) (v bytes : List ℕ) (i at : ℕ) where
  abbrev mine : List ℕ
  mine = part at p.length bytes

  abbrev cut : List ℕ
  cut = part at (at + p.length - at) bytes

  split_lem : writes_from d v qs (drop at bytes) ≡ writes_from d v (p ∷ rest) (drop at bytes)
  split_lem = ap (λ (l : List Request). writes_from d v l (drop at bytes)) e

  module _ {one : Done} {w : List ℕ} (eo : one ≡ write_done d v p.offset cut) (ew : w ≡ write_volume d v p.offset cut) where
    one_is : one ≡ write_done d v p.offset mine
    one_is = eo ∙ ap (λ (l : List ℕ). write_done d v p.offset l) (part_to at p.length bytes)

    vol_is : w ≡ write_volume d v p.offset mine
    vol_is = ew ∙ ap (λ (l : List ℕ). write_volume d v p.offset l) (part_to at p.length bytes)

    test : {b : Bool} → accepts one.answer ≡ b → accepts (write_done d v p.offset mine).answer ≡ b
    test h = ap (λ (z : Done). accepts z.answer) (sym one_is) ∙ h

    pub ends-on : accepts one.answer ≡ true → Ends whole i (writes_from d v qs (drop at bytes))
        → Ends whole (i + 1) (writes_from one.drive w rest (drop (at + p.length) bytes))
    ends-on h from =
        let one' = write_done d v p.offset mine in
        let later' = writes_from one'.drive (write_volume d v p.offset mine) rest (drop p.length (drop at bytes)) in
        let later = writes_from one.drive w rest (drop (at + p.length) bytes) in
        let same : later ≡ later' = λ k. writes_from (one_is k).drive (vol_is k) rest (sym (drop-drop p.length at bytes) k) in
        let was : writes_from d v qs (drop at bytes) ≡ one_more (write_pads d v p.offset mine) later' = split_lem ∙ writes-on d v p rest (drop at bytes) (test h) in
        let more : i + 1 + later.done ≡ i + suc later.done = omega arith in (
          ap (λ (k : ℕ). queued_at later.answer k later.drive) more
              ∙ ap (λ (y : After). queued_at y.answer (i + suc y.done) y.drive) same
              ∙ sym (ap (λ (y : After). queued_at y.answer (i + y.done) y.drive) was) ∙ from.0,
          ap (λ (y : After). y.vol) same ∙ sym (ap (λ (y : After). y.vol) was) ∙ from.1,
        )

    pub ends-stop : {x : Queued} → accepts one.answer ≡ false → x ≡ queued_at one.answer i d → Ends whole i (writes_from d v qs (drop at bytes))
        → (x ≡ queued_by whole) × (w ≡ whole.vol)
    unfolding write_done
    ends-stop h ex from =
        let was : writes_from d v qs (drop at bytes) ≡ none_done d v (write_done d v p.offset mine).answer = split_lem ∙ writes_stop d v p rest (drop at bytes) (test h) in
        let k : i ≡ i + 0 = omega arith in (
          ex ∙ ap (λ (z : Done). queued_at z.answer i d) one_is ∙ ap (λ (j : ℕ). queued_at (write_done d v p.offset mine).answer j d) k
              ∙ sym (ap (λ (y : After). queued_at y.answer (i + y.done) y.drive) was) ∙ from.0,
          vol_is ∙ (write-refused d v p.offset mine (test h)).volume ∙ sym (ap (λ (y : After). y.vol) was) ∙ from.1,
        )
