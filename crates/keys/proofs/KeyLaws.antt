-- A tag key, a check and a seal are 32 bytes.
use mathlib.Core.Path.{◌≡◌}
use mathlib.Core.List.{List}
use Prim.Native.Nat.{ℕ}
use lib.ListN.{length}
use Rattle.words.specs.Le.{Bytes}
use Rattle.blake2s.proofs.FaceLaws.{length-hash, hash-bytes}
use Rattle.keys.specs.declared.Lock.{Lock}
use Rattle.keys.specs.Keys.{tag_key, check_of, seal_of}

pub length-tag_key : (lock : Lock) (f : ℕ) → length (tag_key lock f) ≡ 32
unfolding tag_key
length-tag_key lock f = length-hash lock.key _

pub tag_key-bytes : (lock : Lock) (f : ℕ) → Bytes (tag_key lock f)
unfolding tag_key
tag_key-bytes lock f = hash-bytes lock.key _

pub length-check : (old salt : List ℕ) (epoch : ℕ) → length (check_of old salt epoch) ≡ 32
unfolding check_of
length-check old salt epoch = length-hash old _

pub length-seal : (secret front node : List ℕ) → length (seal_of secret front node) ≡ 32
unfolding seal_of
length-seal secret front node = length-hash secret _
