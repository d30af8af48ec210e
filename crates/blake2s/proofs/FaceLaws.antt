-- The face of the crate: a message taken in pieces has the hash of RFC 7693, which is 32 bytes.
use Rattle.std.proofs.Common.{◌≡◌, ℕ, zero, suc, ◌+◌, ◌*◌, ◌%◌, ◌^◌, ◌<◌, ◌≤◌, min, true, false, ltb, ◌⊎◌, List, [], ◌∷◌, ◌++◌, length, take, drop, sym, refl, ap, ◌∙◌, inl, inr, append-nil, add-one, arith, length-append, length-drop, length-set, take_all, take-suc-set, drop_at, ltb-false, ltb-true, le-ltb}
use lib.Seq.{append_snoc, take-append-le, drop-append-le}
use Rattle.base.specs.Lists.{fold}
use Rattle.base.proofs.PickLaws.{told}
use Rattle.base.proofs.FoldLaws.{fold-append}
use Rattle.words.specs.Le.{Bytes, serialised, words_of}
use Rattle.words.proofs.LeLaws.{length-serialised, serialised-bytes}
use Rattle.blake2s.specs.Hash.{padded, key_block, block, initial, chained, final, hashed, blake2s}
use Rattle.blake2s.specs.Stream.{emptied, laid_byte, push, absorbed, finished, started, started_keyed}
use Rattle.blake2s.specs.declared.State.{State}
use Rattle.blake2s.proofs.ByteLaws.{length-padded, padded-full, count-mod, length-compress}
use Rattle.blake2s.proofs.StreamLaws.{emptied-room}

-- pieces join
pub absorbed-join : (s : State) (a b : List ℕ) → absorbed (absorbed s a) b ≡ absorbed s (a ++ b)
unfolding absorbed
absorbed-join s a b = sym (fold-append push s a b)

-- a block that stands whole in d is the same with more behind d
block-append : (d e : List ℕ) (i : ℕ) → 64 * i + 64 ≤ length d → block (d ++ e) i ≡ block d i
unfolding block
block-append d e i h =
    let inside : 64 ≤ length (drop (64 * i) d) = rw (length-drop (64 * i) d) (omega arith) in
    rw (drop-append-le (64 * i) d e (omega arith), take-append-le 64 (drop (64 * i) d) e inside)

chained_append : (n : ℕ) (d e h : List ℕ) → 64 * n ≤ length d → chained n (d ++ e) h ≡ chained n d h
unfolding chained
chained_append zero d e h l = refl
chained_append (suc n) d e h l = rw (chained_append n d e h (omega arith), block-append d e n (omega arith))

-- the state after the bytes d, the key block among them, from the chain value h
record Read (h d : List ℕ) (s : State) : Type 0 where
  chain_is : s.chain ≡ chained (final d) d h
  rest_is : take s.fill s.buffer ≡ drop (64 * final d) d
  long : length d ≡ 64 * final d + s.fill
  count_is : s.count ≡ 64 * final d % 2 ^ 64
  room : length s.buffer ≡ 64

module _ (h d : List ℕ) (s : State) (b : ℕ) (r : Read h d s) where
  longer : length (d ++ (b ∷ [])) ≡ length d + 1
  longer = length-append d (b ∷ [])

  -- a byte that finds room
  push-room : s.fill < 64 → Read h (d ++ (b ∷ [])) (laid_byte s b)
  unfolding laid_byte
  push-room l =
      let same : final (d ++ (b ∷ [])) ≡ final d = rw longer (omega (arith, r.long)) in
      record {
        chain_is = rw (same, chained_append (final d) d (b ∷ []) h (omega (arith, r.long))) r.chain_is;
        rest_is = rw (same, add-one s.fill, take-suc-set s.buffer s.fill b (rw r.room l), r.rest_is)
            (sym (drop-append-le (64 * final d) d (b ∷ []) (omega (arith, r.long))));
        long = rw (same, longer) (omega (arith, r.long));
        count_is = rw same r.count_is;
        room = length-set s.buffer s.fill b ∙ r.room;
      }

  -- the waiting bytes are what is left of d, and there are at most 64
  few : s.fill ≤ 64
  few = omega (arith, r.long)

  -- a full buffer is the last whole block
  buffer_block : s.fill ≡ 64 → words_of 16 s.buffer ≡ block d (final d)
  unfolding block
  buffer_block e =
      let whole : take 64 s.buffer ≡ s.buffer = take_all 64 s.buffer (omega (arith, r.room)) in
      let rest : drop (64 * final d) d ≡ s.buffer = sym r.rest_is ∙ rw e whole in
      rw (rest, whole, padded-full s.buffer r.room)

  -- a byte that finds the buffer full
  push-full : s.fill ≡ 64 → Read h (d ++ (b ∷ [])) (push s b)
  unfolding push laid_byte emptied chained
  push-full e =
      let long : length d ≡ 64 * suc (final d) = omega (arith, r.long) in
      let next : final (d ++ (b ∷ [])) ≡ suc (final d) = rw longer (omega arith) in
      let count : (s.count + 64) % 2 ^ 64 ≡ 64 * suc (final d) % 2 ^ 64 = omega (arith, r.count_is) in
      rw (le-ltb s.fill 64 (omega arith))
      (record {
        chain_is = rw (
          next,
          chained_append (final d) d (b ∷ []) h (omega arith),
          block-append d (b ∷ []) (final d) (omega arith),
          r.chain_is,
          buffer_block e,
        )
            (count-mod (chained (final d) d h) (block d (final d)) (s.count + 64) (64 * suc (final d)) false count);
        rest_is = rw next (take-suc-set s.buffer 0 b (omega (arith, r.room)) ∙ sym (drop_at d (b ∷ []) (64 * suc (final d)) long));
        long = rw (next, longer) (omega arith);
        count_is = rw next count;
        room = length-set s.buffer 0 b ∙ r.room;
      })

  push-read : Read h (d ++ (b ∷ [])) (push s b)
  unfolding push
  push-read = go (told (ltb s.fill 64))
    where
      go : (ltb s.fill 64 ≡ true) ⊎ (ltb s.fill 64 ≡ false) → Read h (d ++ (b ∷ [])) (push s b)
      go (inl e) = let l : s.fill < 64 = ltb-true s.fill 64 e in rw (emptied-room s l) (push-room l)
      go (inr e) = push-full (omega (arith, ltb-false s.fill 64 e, few))

pushes : (m h d : List ℕ) (s : State) → Read h d s → Read h (d ++ m) (fold push s m)
unfolding fold
pushes [] h d s r = rw (append-nil d) r
pushes (b ∷ m) h d s r = rw (← append_snoc d b m) (pushes m h (d ++ (b ∷ [])) (push s b) (push-read h d s b r))

-- at the end: the hash of all that was read
finished_is : (h d : List ℕ) (s : State) → Read h d s → finished s ≡ hashed h d
unfolding finished hashed block
finished_is h d s r =
    let few : s.fill ≤ 64 = omega (arith, r.long) in
    let all : min s.fill 64 ≡ s.fill = omega arith in
    let short : length (drop (64 * final d) d) ≤ 64 = rw (length-drop (64 * final d) d) (omega (arith, r.long)) in
    let count : (s.count + s.fill) % 2 ^ 64 ≡ length d % 2 ^ 64 = omega (arith, r.long, r.count_is) in
    rw (all, r.rest_is, take_all 64 (drop (64 * final d) d) short, r.chain_is)
    (ap serialised (count-mod (chained (final d) d h) (words_of 16 (padded (drop (64 * final d) d))) (s.count + s.fill) (length d) true count))

start-read : Read (initial 0) [] started
unfolding started chained
start-read = record { chain_is = refl; rest_is = refl; long = refl; count_is = refl; room = refl }

-- without a key
pub absorbed-hash : (m : List ℕ) → finished (absorbed started m) ≡ blake2s [] m
unfolding absorbed blake2s key_block
absorbed-hash m = finished_is (initial 0) m (fold push started m) (pushes m (initial 0) [] started start-read)

keyed-read : (key : List ℕ) → length key ≡ 32 → Read (initial 32) (padded key) (started_keyed key)
unfolding started_keyed chained
keyed-read key e =
    let long : length (padded key) ≡ 64 = length-padded key (omega arith) in
    let none : final (padded key) ≡ 0 = rw long in
    record {
      chain_is = rw none;
      rest_is = rw none (take_all 64 (padded key) (omega arith));
      long = rw (none, long);
      count_is = rw none;
      room = long;
    }

key_block_lem : (key : List ℕ) → length key ≡ 32 → key_block key ≡ padded key
unfolding key_block
key_block_lem [] e = absurd (omega arith)
key_block_lem (k ∷ key) e = refl

-- with a key of 32 bytes
pub absorbed-keyed-hash : (key m : List ℕ) → length key ≡ 32 → finished (absorbed (started_keyed key) m) ≡ blake2s key m
unfolding absorbed blake2s
absorbed-keyed-hash key m e =
    rw (e, key_block_lem key e)
    (finished_is (initial 32) (padded key ++ m) (fold push (started_keyed key) m)
    (pushes m (initial 32) (padded key) (started_keyed key) (keyed-read key e)))

-- the hash has 32 bytes
pub length-hash : (key m : List ℕ) → length (blake2s key m) ≡ 32
unfolding blake2s hashed
length-hash key m = length-serialised _ ∙ rw (length-compress _ _ _ _)

pub hash-bytes : (key m : List ℕ) → Bytes (blake2s key m)
unfolding blake2s hashed
hash-bytes key m = serialised-bytes _
