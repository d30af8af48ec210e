-- Laws of padded blocks, of the count, and of a chain value's bytes.
use Rattle.std.proofs.Common.{◌≡◌, ℕ, suc, ◌+◌, ◌-◌, ◌*◌, ◌%◌, ◌^◌, ◌<◌, ◌≤◌, Bool, List, length, get_or, drop, replicate, sym, ◌∙◌, append-nil, zero-add, add-one, arith, length-append, drop_of_length-le, drop-cons}
use lib.Pow.{field}
use lib.ListN.{length-replicate}
use lib.Seq.{sets, sets-eq}
use Rattle.base.proofs.TabLaws.{length-tab}
use Rattle.words.specs.Le.{le, serialised}
use Rattle.words.proofs.LeLaws.{length-serialised}
use Rattle.blake2s.specs.Compress.{rounds, vector, compress, joined_at}
use Rattle.blake2s.specs.Hash.{padded}
use Rattle.base.proofs.PartLaws.{drop-replicate}

-- bytes laid over zeros are padded
pub sets-zeros : (l : List ℕ) → length l ≤ 64 → sets (replicate 64 0) 0 l ≡ padded l
unfolding padded
sets-zeros l h =
    rw (sets-eq l (replicate 64 0) 0 (rw (zero-add (length l)) h), zero-add (length l), drop-replicate {A = ℕ} (length l) 64 0)

pub length-padded : (l : List ℕ) → length l ≤ 64 → length (padded l) ≡ 64
unfolding padded
length-padded l h = rw (length-append l (replicate (64 - length l) 0), length-replicate {A = ℕ} (64 - length l) 0) (omega arith)

pub padded-full : (l : List ℕ) → length l ≡ 64 → padded l ≡ l
unfolding padded
padded-full l e = rw e (append-nil l)

-- the count matters modulo 2^64 alone
pub count-mod : (h m : List ℕ) (t u : ℕ) (f : Bool) → t % 2 ^ 64 ≡ u % 2 ^ 64 → compress h m t f ≡ compress h m u f
unfolding compress vector
count-mod h m t u f e =
    let low : t % 2 ^ 32 ≡ u % 2 ^ 32 = omega arith in
    rw (low, ← field t 32 32, e, field u 32 32)

pub length-compress : (h m : List ℕ) (t : ℕ) (f : Bool) → length (compress h m t f) ≡ 8
unfolding compress
length-compress h m t f = length-tab 8 (joined_at h (rounds 10 m (vector h t f)))

-- a turn of the loop that stores the words: what is left to do
pub store_more : (h r : List ℕ) (i : ℕ) → i < length h
    → sets (sets r (4 * i) (le 4 (get_or h i 0))) (4 * (i + 1)) (serialised (drop (i + 1) h)) ≡ sets r (4 * i) (serialised (drop i h))
unfolding serialised le
store_more h r i l =
    let next : 4 * (i + 1) ≡ suc (suc (suc (suc (4 * i)))) = omega arith in
    rw (drop-cons h i 0 l, next, add-one i)

pub store-all : (h r out : List ℕ) (i : ℕ) → sets r (4 * i) (serialised (drop i h)) ≡ sets out 0 (serialised h) → length h ≤ i → length out ≡ 4 * length h
    → r ≡ serialised h
unfolding serialised
store-all h r out i e l n =
    let long : length (serialised h) ≡ length out = length-serialised h ∙ sym n in
    rw (drop_of_length-le h l) at e
    ∙ sets-eq (serialised h) out 0 (omega arith)
    ∙ rw (drop_of_length-le out {i = 0 + length (serialised h)} (omega arith)) (append-nil (serialised h))
