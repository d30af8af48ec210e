-- A tag is 16 bytes, and the pieces of its message have it.
use mathlib.Core.Path.{◌≡◌, refl, sym, ap, ◌∙◌}
use mathlib.Core.List.{List, [], ◌++◌, append-nil}
use Prim.Native.Nat.{ℕ}
use lib.ListN.{length}
use borrow.Author.Tests.{eq-eqb, ne_eqb}
use Rattle.base.proofs.PickLaws.{yes, no}
use Rattle.words.specs.Le.{Bytes}
use Rattle.words.proofs.LeLaws.{length-le}
use Rattle.poly1305.specs.declared.State.{State}
use Rattle.poly1305.specs.Poly1305.{poly1305}
use Rattle.poly1305.specs.State.{started, absorbed, finished}
use Rattle.poly1305.proofs.StateLaws.{join}
use Rattle.poly1305.proofs.Mac.{mac}
use Rattle.keys.specs.declared.Lock.{Lock}
use Rattle.keys.specs.Keys.{tag_key}
use Rattle.keys.specs.Tags.{laid_out, named, covered, tag_of}

-- three pieces, one behind the other
pub three : (key a b c : List ℕ) {s t u v : State} → s ≡ started key → t ≡ absorbed s a → u ≡ absorbed t b → v ≡ absorbed u c → length key ≡ 32 → Bytes key
    → finished v ≡ poly1305 key (a ++ (b ++ c))
three key a b c {v = v} es et eu ev long bytes =
    let start = started key in
    let whole : v ≡ absorbed start (a ++ (b ++ c)) = rw (ev, eu, et, es) (join (absorbed start a) b c ∙ join start a (b ++ c)) in
    ap finished whole ∙ mac key (a ++ (b ++ c)) long bytes

module _ (lock : Lock) (f : ℕ) (stored : List ℕ) where
  pub length-tag : length (tag_of lock f stored) ≡ 16
  unfolding tag_of poly1305
  length-tag = length-le 16 _

  -- the tag of version 1, and that of a later one
  pub tagged-first : {t r : List ℕ} → lock.version ≡ 1 → t ≡ tag_key lock f → r ≡ poly1305 t ([] ++ (stored ++ [])) → r ≡ tag_of lock f stored
  unfolding tag_of covered
  tagged-first one et er = er ∙ rw et (ap (poly1305 (tag_key lock f)) (append-nil stored ∙ sym (yes _ (eq-eqb lock.version 1 one) refl)))

  pub tagged-later : {t r : List ℕ} → (lock.version ≡ 1 → ⊥) → t ≡ tag_key lock f → r ≡ poly1305 t (laid_out (named lock f) stored) → r ≡ tag_of lock f stored
  unfolding tag_of covered
  tagged-later other et er = er ∙ rw et (ap (poly1305 (tag_key lock f)) (sym (no _ (ne_eqb lock.version 1 other) refl)))
