-- The sectors that a flake meets, decrypted by themselves, hold the flake's bytes of the whole.
use mathlib.Core.Path.{◌≡◌, refl, sym, ap, ◌∙◌}
use mathlib.Core.List.{List, ◌++◌}
use Rattle.std.proofs.lemmas.List.{take-append-le}
use Prim.Native.Nat.{ℕ, ◌+◌, ◌-◌, ◌*◌, ◌/◌, ◌%◌, ◌<◌, ◌≤◌}
use native.Mathlib.Omega.{arith}
use lib.ListN.{length, get_or, take, drop}
use borrow.Author.Tests.{le-leb, lt-ltb}
use Rattle.base.specs.Lists.{part}
use Rattle.base.proofs.PickLaws.{yes, both-on}
use Rattle.base.proofs.PartLaws.{length_part, get_or-part, part-part, part-below}
use Rattle.base.proofs.TabLaws.{tab_ext}
use Rattle.layout.specs.declared.Shape.{Shape}
use Rattle.layout.specs.Spots.{offset_at}
use Rattle.keys.specs.declared.Lock.{Lock}
use Rattle.changes.specs.Laid.{over, written, laid_flake}
use Rattle.sectors.specs.Sectors.{decrypted_from}
use Rattle.sectors.proofs.SectorLaws.{decrypted-part}
use Rattle.handing.specs.Handing.{import_bytes}

-- the sectors copied into scratch, and decrypted there
pub opened : (one two bytes : List ℕ) (first : ℕ) (scratch : List ℕ) {a b : List ℕ} → length scratch % 512 ≡ 0 → 512 * first + length scratch ≤ length bytes
    → a ≡ take (512 * first + length scratch - 512 * first) (drop (512 * first) bytes) → b ≡ decrypted_from one two first a
    → b ≡ part (512 * first) (length scratch) (import_bytes one two bytes)
opened one two bytes first scratch even room ea eb =
    let k = length scratch / 512 in
    let size : length scratch ≡ 512 * k = omega arith in
    let long : 512 * first + length scratch - 512 * first ≡ length scratch = omega arith in
    eb
    ∙ ap (λ (x : List ℕ). decrypted_from one two first x) (ea ∙ ap (λ (m : ℕ). part (512 * first) m bytes) long)
    ∙ ap (λ (m : ℕ). decrypted_from one two first (part (512 * first) m bytes)) size
    ∙ sym (decrypted-part one two first k bytes (omega arith))
    ∙ ap (λ (m : ℕ). part (512 * first) m (import_bytes one two bytes)) (sym size)

-- the byte at an offset that the written bytes reach
over_in : (o : ℕ) (bytes : List ℕ) (a was : ℕ) → o ≤ a → a < o + length bytes → over o bytes a was ≡ get_or bytes (a - o) 0
over_in o bytes a was h l = yes _ (both-on (le-leb o a h) (lt-ltb a (o + length bytes) l)) refl

-- a flake covered whole: its own bytes alone, or all of them
module _ (s : Shape) (bytes : List ℕ) (n f : ℕ) (was : List ℕ) (start : ℕ) (es : start ≡ offset_at s n f 0) (room : start + s.f ≤ length bytes) where
  abbrev mine : List ℕ
  mine = part start s.f bytes

  pub written_mine : written s start (part start s.f bytes) n f was ≡ written s 0 bytes n f was
  unfolding written
  written_mine =
      let long : length mine ≡ s.f = length_part start s.f bytes room in
      tab_ext s.f (λ b. over start mine (offset_at s n f b) (get_or was b 0)) (λ b. over 0 bytes (offset_at s n f b) (get_or was b 0)) (λ b h.
      let at : offset_at s n f b ≡ start + b = omega (arith, es) in
      let back : offset_at s n f b - start ≡ b = omega (arith, at) in
      let all : offset_at s n f b - 0 ≡ start + b = omega (arith, at) in
      over_in start mine (offset_at s n f b) (get_or was b 0) (omega (arith, at)) (omega (arith, at, long, h))
      ∙ ap (λ (i : ℕ). get_or mine i 0) back
      ∙ get_or-part start s.f bytes b 0 h
      ∙ ap (λ (i : ℕ). get_or bytes i 0) (sym all)
      ∙ sym (over_in 0 bytes (offset_at s n f b) (get_or was b 0) (omega arith) (omega (arith, at, room, h))))

-- what stands in front
front : (at k : ℕ) (x y : List ℕ) → at + k ≤ length x → part at k (x ++ y) ≡ part at k x
front at k x y h = part-below at k (length x) (x ++ y) x h (sym (take-append-le (length x) x y (omega arith)))

-- the flake laid from scratch, whose front holds the sectors, is the flake laid from the whole
pub laid-opened : (s : Shape) (lock : Lock) (f : ℕ) (bytes was v : List ℕ) (start n at k : ℕ) (y : List ℕ) {x w : List ℕ} → start ≡ offset_at s lock.number f 0
    → start + s.f ≤ length bytes → at ≡ start % 512 → at + s.f ≤ n → k ≡ s.f → length x ≡ n → x ≡ part (512 * (start / 512)) n bytes
    → w ≡ laid_flake s lock f (written s start (part at k (x ++ y)) lock.number f was) v → w ≡ laid_flake s lock f (written s 0 bytes lock.number f was) v
laid-opened s lock f bytes was v start n at k y {x} es room ea inside ek long ec ew =
    let whole : 512 * (start / 512) + at ≡ start = omega (arith, ea) in
    let mine : part at k (x ++ y) ≡ part start s.f bytes =
    ap (λ (m : ℕ). part at m (x ++ y)) ek
    ∙ front at s.f x y (omega (arith, inside, long))
    ∙ ap (λ (z : List ℕ). part at s.f z) ec
    ∙ part-part at s.f (512 * (start / 512)) n bytes inside
    ∙ ap (λ (m : ℕ). part m s.f bytes) whole in
    ew
    ∙ ap (λ (z : List ℕ). laid_flake s lock f (written s start z lock.number f was) v) mine
    ∙ ap (λ (z : List ℕ). laid_flake s lock f z v) (written_mine s bytes lock.number f was start es room)
