-- Pieces of contents.
use mathlib.Core.Path.{◌≡◌, sym, ap, ◌∙◌}
use mathlib.Core.Bool.{true, false}
use mathlib.Core.Logic.{⊎_elim}
use mathlib.Core.List.{List}
use Prim.Native.Nat.{ℕ, ◌+◌, ◌<◌, ◌≤◌}
use native.Mathlib.Omega.{arith}
use lib.ListN.{length, drop, length-replicate, get_or-replicate}
use lib.Seq.{ext_get_or}
use Rattle.base.specs.Lists.{part}
use Rattle.base.proofs.PickLaws.{told}
use Rattle.base.proofs.PartLaws.{length_part, part-part, get_or-part}
use Rattle.words.specs.Xor.{xorl}
use Rattle.words.proofs.XorLaws.{xorl-part}
use Rattle.layout.specs.declared.Shape.{Shape}
use Rattle.layout.specs.Parts.{flake_at}
use Rattle.layout.proofs.Places.{flake-inside}
use Rattle.records.specs.Journal.{bit}
use Rattle.keys.specs.Pads.{pad_of}
use Rattle.keys.proofs.PadLaws.{length-under}
use Rattle.drive.specs.Drive.{zeros}
use Rattle.nuggets.specs.declared.Nugget.{Nugget}
use Rattle.nuggets.specs.Nugget.{contents_in, stored_in}
use Rattle.layout.specs.Shaped.{Shaped}

pub length-contents : (s : Shape) (v : List ℕ) (g : Nugget) (f : ℕ) → Shaped s v → g.lock.number < s.n → f < s.p → length (contents_in s v g f) ≡ s.f
unfolding contents_in
length-contents s v g f lent a b =
    let room : flake_at s g.lock.number f + s.f ≤ length v = rw lent.size (flake-inside s g.lock.number f a b) in
    ⊎_elim
    (λ here. rw here (length-under g.lock f s.f (stored_in s v g.lock.number f) ∙ length_part (flake_at s g.lock.number f) s.f v room))
    (λ gone. rw gone (length-replicate s.f 0))
    (told (bit g.held f))

module _ (s : Shape) (v : List ℕ) (g : Nugget) (f b n : ℕ) where
  -- the stored bytes of a piece with the pad's laid over them
  pub piece-present : Shaped s v → g.lock.number < s.n → f < s.p → b + n ≤ s.f → bit g.held f ≡ true
      → xorl (part (flake_at s g.lock.number f + b) n v) (drop b (pad_of g.lock f s.f)) ≡ part b n (contents_in s v g f)
  unfolding contents_in
  piece-present lent p q h here =
      let at = flake_at s g.lock.number f in
      let room : at + s.f ≤ length v = rw lent.size (flake-inside s g.lock.number f p q) in
      let long : length (stored_in s v g.lock.number f) ≡ s.f = length_part at s.f v room in
      let pad = pad_of g.lock f s.f in
      rw here
      (ap (λ (x : List ℕ). xorl x (drop b pad)) (sym (part-part b n at s.f v h))
      ∙ sym (xorl-part b n (stored_in s v g.lock.number f) pad (rw long h)))

  pub piece_absent : b + n ≤ s.f → bit g.held f ≡ false → zeros n ≡ part b n (contents_in s v g f)
  unfolding contents_in
  piece_absent h gone =
      let whole : length (zeros s.f) ≡ s.f = length-replicate s.f 0 in
      let full : length (zeros n) ≡ n = length-replicate n 0 in
      let long : length (part b n (zeros s.f)) ≡ n = length_part b n (zeros s.f) (rw whole h) in
      rw gone
      (ext_get_or 0 (zeros n) (part b n (zeros s.f)) (full ∙ sym long) (λ i q.
      let low : i < n = omega (arith, q, full) in
      get_or-replicate n i 0 0 low ∙ sym (get_or-part b n (zeros s.f) i 0 low ∙ get_or-replicate s.f (b + i) 0 0 (omega (arith, low, h)))))
