-- What start and absorb leave for finish.
use mathlib.Core.Path.{◌≡◌, ap, ◌∙◌}
use mathlib.Core.List.{List, []}
use Prim.Native.Nat.{ℕ}
use lib.ListN.{length}
use Rattle.words.specs.Le.{Bytes}
use Rattle.poly1305.specs.declared.State.{State}
use Rattle.poly1305.specs.State.{started, absorbed, finished}
use Rattle.poly1305.specs.Poly1305.{poly1305}
use Rattle.poly1305.proofs.Mac.{mac}
use Rattle.blake2s.specs.declared.State as B
use Rattle.blake2s.specs.Stream as stream
use Rattle.blake2s.specs.Hash.{blake2s}
use Rattle.blake2s.proofs.FaceLaws.{absorbed-hash, absorbed-keyed-hash}

module _ {s t : State} (key m : List ℕ) (starts : s ≡ started key) (absorbs : t ≡ absorbed s m) where
  both : t ≡ absorbed (started key) m
  both = absorbs ∙ ap (λ (x : State). absorbed x m) starts

  pub tagged : length key ≡ 32 → Bytes key → finished t ≡ poly1305 key m
  tagged l b = ap finished both ∙ mac key m l b

module _ {s t : B.State} (m : List ℕ) (absorbs : t ≡ stream.absorbed s m) where
  pub hashed : s ≡ stream.started → stream.finished t ≡ blake2s [] m
  hashed e = ap stream.finished (absorbs ∙ ap (λ (x : B.State). stream.absorbed x m) e) ∙ absorbed-hash m

  pub hashed-keyed : (key : List ℕ) → s ≡ stream.started_keyed key → length key ≡ 32 → stream.finished t ≡ blake2s key m
  hashed-keyed key e l =
      ap stream.finished (absorbs ∙ ap (λ (x : B.State). stream.absorbed x m) e) ∙ absorbed-keyed-hash key m l
