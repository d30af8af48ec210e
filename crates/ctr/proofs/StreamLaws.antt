-- The output blocks: their length, and that pieces of four of them are SP 800-38A block by block.
use Rattle.std.proofs.Common.{◌≡◌, ℕ, zero, suc, ◌+◌, ◌-◌, ◌*◌, ◌/◌, ◌≤◌, List, [], ◌++◌, length, drop, sym, refl, ap, ◌∙◌, append_assoc, append-nil, add-zero, add-suc, add-one, arith, length-append}
use lib.Seq.{sets}
use Rattle.base.proofs.PartLaws.{grows}
use Rattle.streams.specs.Lay.{pieces, laid_by}
use Rattle.words.specs.Xor.{xorl}
use Rattle.words.proofs.XorLaws.{xorl-front, xorl-back, length-xorl}
use Rattle.aes.specs.Aes.{cipher, key_expansion}
use Rattle.aes.proofs.StateLaws.{length-cipher}
use Rattle.ctr.specs.Ctr.{counter_block, stepped, output_blocks, blocks, laid_under, counter_mode}

module _ (w : List ℕ) (k : ℕ) where
  long-block : (n : ℕ) → length (cipher w (counter_block k n)) ≡ 16
  long-block n = length-cipher w (counter_block k n)

  pub length-stream : (n j : ℕ) → length (output_blocks w k n j) ≡ 16 * j
  unfolding output_blocks
  length-stream n zero = refl
  length-stream n (suc j) =
      length-append (output_blocks w k n j) (cipher w (counter_block k (stepped n j))) ∙ rw (length-stream n j, long-block (stepped n j)) (omega arith)

  -- a turn of the loop that stores one block
  pub stream_more : (n i : ℕ) (z : List ℕ) {r v : List ℕ} → r ≡ output_blocks w k n i ++ drop (16 * i) z → v ≡ cipher w (counter_block k (stepped n i))
      → 16 * i + 16 ≤ length z → sets r (16 * i) v ≡ output_blocks w k n (i + 1) ++ drop (16 * (i + 1)) z
  unfolding output_blocks
  stream_more n i z {r} {v} e q h =
      let reach : 16 * i + length v ≡ 16 * (i + 1) = rw (q, long-block (stepped n i)) (omega arith) in
      grows (output_blocks w k n i) z v (16 * i) (16 * (i + 1)) e (length-stream n i) reach (omega arith)
      ∙ rw (add-one i, q)

  pub stream-add : (n a b : ℕ) → output_blocks w k n (a + b) ≡ output_blocks w k n a ++ output_blocks w k (stepped n a) b
  unfolding output_blocks
  stream-add n a zero = rw (add-zero a) (sym (append-nil (output_blocks w k n a)))
  stream-add n a (suc b) =
      let same : stepped n (a + b) ≡ stepped (stepped n a) b = omega arith in
      rw (add-suc a b, stream-add n a b, same)
      (append_assoc (output_blocks w k n a) (output_blocks w k (stepped n a) b) (cipher w (counter_block k (stepped (stepped n a) b))))

  -- four blocks at a time
  abbrev pub piece : ℕ → List ℕ
  piece n = output_blocks w k n 4

  abbrev pub onward : ℕ → ℕ
  onward n = stepped n 4

  pub long-piece : (n : ℕ) → length (piece n) ≡ 64
  long-piece n = length-stream n 4

  stream-none : (n : ℕ) → [] ≡ output_blocks w k n 0
  unfolding output_blocks
  stream-none n = refl

  in_pieces : (n j : ℕ) → pieces piece onward n j ≡ output_blocks w k n (4 * j)
  unfolding pieces
  in_pieces n zero = stream-none n
  in_pieces n (suc j) =
      let e : 4 * suc j ≡ 4 + 4 * j = omega arith in
      ap (λ (l : List ℕ). output_blocks w k n 4 ++ l) (in_pieces (stepped n 4) j) ∙ sym (ap (output_blocks w k n) e ∙ stream-add n 4 (4 * j))

  pub laid_is : (n : ℕ) (d : List ℕ) → laid_by piece onward n d ≡ laid_under w k n d
  unfolding laid_by laid_under
  laid_is n d =
      let m = (length d + 63) / 64 in
      let b = blocks (length d) in
      let e : 4 * m ≡ b + (4 * m - b) = omega arith in
      ap (λ (l : List ℕ). xorl d l) (in_pieces n m ∙ ap (output_blocks w k n) e ∙ stream-add n b (4 * m - b))
      ∙ xorl-front d (output_blocks w k n b) (output_blocks w k (stepped n b) (4 * m - b)) (rw (length-stream n b) (omega arith))

-- laid twice, a text is itself again: encryption and decryption are the same
pub laid_twice : (w : List ℕ) (k n : ℕ) (text : List ℕ) → laid_under w k n (laid_under w k n text) ≡ text
unfolding laid_under
laid_twice w k n text =
    let s : List ℕ = output_blocks w k n (blocks (length text)) in
    ap (λ (m : ℕ). xorl (xorl text s) (output_blocks w k n (blocks m))) (length-xorl text s) ∙ xorl-back text s

pub counter_mode_twice : (key : List ℕ) (k n : ℕ) (text : List ℕ) → counter_mode key k n (counter_mode key k n text) ≡ text
unfolding counter_mode
counter_mode_twice key k n text = laid_twice (key_expansion key) k n text
