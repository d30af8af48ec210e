-- Laying a block a turn, by the laws of crate `streams`, or eight: what is left to lay gives what is asked.
use Rattle.std.proofs.Common.{◌≡◌, ℕ, zero, suc, ◌+◌, ◌-◌, ◌*◌, ◌/◌, ◌^◌, ◌<◌, ◌≤◌, min, List, [], ◌++◌, length, get_or, take, drop, set, sym, refl, ap, ◌∙◌, append_assoc, append-nil, arith, length-append, length-drop, take-append-drop, drop_of_length-le, length-take, length-take-le, take_all, take_at, drop_at}
use Rattle.words.specs.Word.{add32}
use Rattle.base.specs.Lists.{tab}
use Rattle.words.specs.Le.{words_of}
use Rattle.words.specs.Xor.{xorl}
use Rattle.words.proofs.XorLaws.{length-xorl}
use Rattle.chacha20.specs.ChaCha20.{start, block_from, block_of, keystream, encrypted}
use Rattle.chacha20.specs.Lanes.{blocks_from}
use Rattle.streams.specs.Lay.{pieces, laid_by}
use Rattle.streams.proofs.LayLaws.{Left as LaidLeft, left-none as laid_none, left_more as laid_more, left-all as laid-all}
use Rattle.chacha20.proofs.BlockLaws.{length-block, start-at}
use Rattle.chacha20.proofs.LaneLaws.{blocks-keystream}
use Rattle.chacha20.proofs.KeystreamLaws.{keystream-add, encrypted-by, encrypted-append}

-- z takes the place of the n bytes from `at` on, and f lays what is left
placed : (d z : List ℕ) (at n : ℕ) (f g : List ℕ → List ℕ) → at ≤ length d → length z ≡ n → z ++ f (drop n (drop at d)) ≡ g (drop at d)
    → take (at + n) (take at d ++ (z ++ drop n (drop at d))) ++ f (drop (at + n) (take at d ++ (z ++ drop n (drop at d)))) ≡ take at d ++ g (drop at d)
placed d z at n f g h reach e =
    let p = take at d in
    let r = drop n (drop at d) in
    let front : length (p ++ z) ≡ at + n = length-append p z ∙ rw (length-take-le at d h, reach) in
    rw (← append_assoc p z r, take_at (p ++ z) r (at + n) front, drop_at (p ++ z) r (at + n) front, append_assoc) (ap (λ (l : List ℕ). p ++ l) e)

module _ (key nonce : List ℕ) where
  -- one block is a piece
  abbrev pub piece : ℕ → List ℕ
  piece c = block_of key nonce c

  abbrev pub onward : ℕ → ℕ
  onward c = add32 c 1

  pub long-piece : (c : ℕ) → length (piece c) ≡ 64
  long-piece c = length-block key nonce c

  first_block_lem : (c : ℕ) → c < 2 ^ 32 → keystream key nonce c 1 ≡ block_of key nonce c
  unfolding keystream
  first_block_lem c small =
      let e : add32 c 0 ≡ c = omega arith in
      rw e

  stream-none : (c : ℕ) → [] ≡ keystream key nonce c 0
  unfolding keystream
  stream-none c = refl

  in_pieces : (c n : ℕ) → c < 2 ^ 32 → pieces piece onward c n ≡ keystream key nonce c n
  unfolding pieces
  in_pieces c zero small = stream-none c
  in_pieces c (suc n) small =
      let low : add32 c 1 < 2 ^ 32 = omega arith in
      let e : suc n ≡ 1 + n = omega arith in
      ap (λ (l : List ℕ). block_of key nonce c ++ l) (in_pieces (add32 c 1) n low)
      ∙ ap (λ (l : List ℕ). l ++ keystream key nonce (add32 c 1) n) (sym (first_block_lem c small))
      ∙ sym (ap (keystream key nonce c) e ∙ keystream-add key nonce c 1 n)

  laid_is : (c : ℕ) (d : List ℕ) → c < 2 ^ 32 → laid_by piece onward c d ≡ encrypted key nonce c d
  unfolding laid_by encrypted
  laid_is c d small = ap (λ (l : List ℕ). xorl d l) (in_pieces c ((length d + 63) / 64) small)

counter_of : (key nonce : List ℕ) (c : ℕ) → get_or (start key nonce c) 12 0 ≡ c
unfolding start words_of tab
counter_of key nonce c = refl

counter_in : (key nonce : List ℕ) (c : ℕ) {s : List ℕ} → s ≡ start key nonce c → get_or s 12 0 ≡ c
counter_in key nonce c e = ap (λ (l : List ℕ). get_or l 12 0) e ∙ counter_of key nonce c

-- the start state at its own counter
from_start : (key nonce : List ℕ) (c : ℕ) {s : List ℕ} → s ≡ start key nonce c → s ≡ start key nonce (get_or s 12 0)
from_start key nonce c e = e ∙ sym (ap (start key nonce) (counter_in key nonce c e))

next_start : (key nonce : List ℕ) (c b : ℕ) {s : List ℕ} → s ≡ start key nonce c → set s 12 b ≡ start key nonce b
next_start key nonce c b f = ap (λ (l : List ℕ). set l 12 b) f ∙ start-at key nonce c b

-- s is a start state, and d with the rest laid from `at` and its counter on is what d₀ is to become
pub record Left (key nonce : List ℕ) (c₀ : ℕ) (d₀ s : List ℕ) (at : ℕ) (d : List ℕ) : Type 0 where
  pub state : s ≡ start key nonce (get_or s 12 0)
  pub goes : LaidLeft (piece key nonce) (onward key nonce) (long-piece key nonce) c₀ d₀ (get_or s 12 0) at d

pub left-none : (key nonce d : List ℕ) (c : ℕ) {s : List ℕ} → s ≡ start key nonce c → Left key nonce c d s 0 d
left-none key nonce d c {s} e =
    record {
      state = from_start key nonce c e;
      goes = rw (counter_in key nonce c e) (laid_none (piece key nonce) (onward key nonce) (long-piece key nonce) c d);
    }

block_at : (key nonce : List ℕ) (c : ℕ) {s k : List ℕ} → k ≡ block_from s → s ≡ start key nonce c → k ≡ block_of key nonce c
unfolding block_of
block_at key nonce c e f = e ∙ ap block_from f

pub left_more : {key nonce d₀ s : List ℕ} {c₀ : ℕ} (d : List ℕ) (at n m : ℕ) {k z : List ℕ} → Left key nonce c₀ d₀ s at d
    → n ≡ min 64 (length d - at) → at ≤ length d → m ≡ n → k ≡ block_from s → z ≡ xorl (take m (drop at d)) k
    → Left key nonce c₀ d₀ (set s 12 (add32 (get_or s 12 0) 1)) (at + 64) (take at d ++ (z ++ drop m (drop at d)))
left_more {key} {nonce} {d₀} {s} {c₀} d at n m left e h q f w =
    let c : ℕ = get_or s 12 0 in
    let next = next_start key nonce c (add32 c 1) left.state in
    record {
      state = from_start key nonce (add32 c 1) next;
      goes =
          laid_more (piece key nonce) (onward key nonce) (long-piece key nonce) d c at n m left.goes e h q (block_at key nonce c f left.state) w
          (counter_in key nonce (add32 c 1) next);
    }

pub left-all : {key nonce d₀ s : List ℕ} {c₀ : ℕ} (d : List ℕ) (at : ℕ) → Left key nonce c₀ d₀ s at d → length d ≤ at → c₀ < 2 ^ 32
    → d ≡ encrypted key nonce c₀ d₀
left-all {key} {nonce} {d₀} {s} {c₀} d at left h small =
    laid-all (piece key nonce) (onward key nonce) (long-piece key nonce) d (get_or s 12 0) at left.goes h ∙ laid_is key nonce c₀ d₀ small

-- the same with eight blocks at a time
pub record Eights (key nonce : List ℕ) (c₀ : ℕ) (d₀ s : List ℕ) (at : ℕ) (d : List ℕ) : Type 0 where
  pub state : s ≡ start key nonce (get_or s 12 0)
  pub goes : take at d ++ encrypted key nonce (get_or s 12 0) (drop at d) ≡ encrypted key nonce c₀ d₀

pub eights-none : (key nonce d : List ℕ) (c : ℕ) {s : List ℕ} → s ≡ start key nonce c → Eights key nonce c d s 0 d
eights-none key nonce d c {s} e =
    record {
      state = from_start key nonce c e;
      goes = rw (counter_in key nonce c e);
    }

pub eights_more : {key nonce d₀ s : List ℕ} {c₀ : ℕ} (d : List ℕ) (at m : ℕ) {k z : List ℕ} → Eights key nonce c₀ d₀ s at d
    → at + 512 ≤ length d → m ≡ 512 → k ≡ blocks_from s 8 → z ≡ xorl (take m (drop at d)) k
    → Eights key nonce c₀ d₀ (set s 12 (add32 (get_or s 12 0) 8)) (at + 512) (take at d ++ (z ++ drop m (drop at d)))
eights_more {key} {nonce} {d₀} {s} {c₀} d at m {k} {z} now h q v w =
    let c : ℕ = get_or s 12 0 in
    let t : List ℕ = drop at d in
    let left : length t ≡ length d - at = length-drop at d in
    let full : length (take 512 t) ≡ 64 * 8 = length-take 512 t ∙ omega arith in
    let from : k ≡ keystream key nonce c 8 = v ∙ ap (λ (l : List ℕ). blocks_from l 8) now.state ∙ blocks-keystream key nonce c 8 in
    let some : z ≡ encrypted key nonce c (take 512 t) = rw (q, from) at w ∙ encrypted-by key nonce c (take 512 t) 8 (omega arith) in
    let whole : z ++ encrypted key nonce (add32 c 8) (drop 512 t) ≡ encrypted key nonce c t =
    rw some (sym (encrypted-append key nonce c (take 512 t) (drop 512 t) 8 full) ∙ ap (encrypted key nonce c) (take-append-drop 512 t)) in
    let reach : length z ≡ 512 = ap length w ∙ length-xorl (take m t) k ∙ length-take m t ∙ omega arith in
    let next = next_start key nonce c (add32 c 8) now.state in
    record {
      state = from_start key nonce (add32 c 8) next;
      goes =
          rw (q, counter_in key nonce (add32 c 8) next)
          (placed d z at 512 (encrypted key nonce (add32 c 8)) (encrypted key nonce c) (omega arith) reach whole ∙ now.goes);
    }

-- what is laid over all that is left takes its place
pub eights-rest : {key nonce d₀ s : List ℕ} {c₀ : ℕ} (d : List ℕ) (at n : ℕ) {z : List ℕ} → Eights key nonce c₀ d₀ s at d → n ≡ length d - at
    → z ≡ encrypted key nonce (get_or s 12 0) (take n (drop at d)) → take at d ++ (z ++ drop n (drop at d)) ≡ encrypted key nonce c₀ d₀
eights-rest {key} {nonce} {s = s} d at n now q w =
    let all : length (drop at d) ≤ n = rw (length-drop at d, q) (omega arith) in
    rw (w, take_all n (drop at d) all, drop_of_length-le (drop at d) all, append-nil (encrypted key nonce (get_or s 12 0) (drop at d))) now.goes
