-- A block is 64 bytes.
use Rattle.std.proofs.Common.{◌≡◌, ℕ, ◌+◌, ◌*◌, ◌≤◌, List, [], ◌∷◌, ◌++◌, length, drop, set, sym, refl, ap, ◌∙◌, append_assoc, append-nil, add-one, arith, drop_of_length-le}
use lib.Seq.{sets}
use Rattle.base.specs.Lists.{tab}
use Rattle.base.proofs.TabLaws.{length-tab}
use Rattle.base.proofs.PartLaws.{grows, sets-append}
use Rattle.words.specs.Le.{le, Bytes, words_of, serialised}
use Rattle.words.proofs.LeLaws.{length-le, length-serialised, serialised-bytes}
use Rattle.chacha20.specs.ChaCha20.{added, start, block_from, block_of, twenty_rounds}

-- a word more at the end
pub serialised_snoc : (w : List ℕ) (x : ℕ) → serialised (w ++ (x ∷ [])) ≡ serialised w ++ le 4 x
unfolding serialised
serialised_snoc [] x = append-nil (le 4 x)
serialised_snoc (y ∷ w) x = rw (serialised_snoc w x) (sym (append_assoc (le 4 y) (serialised w) (le 4 x)))

pub length-block : (key nonce : List ℕ) (counter : ℕ) → length (block_of key nonce counter) ≡ 64
unfolding block_of block_from added
length-block key nonce counter =
    let s = start key nonce counter in
    length-serialised (added (twenty_rounds s) s) ∙ ap (λ (n : ℕ). 4 * n) (length-tab 16 _)

pub block-bytes : (key nonce : List ℕ) (counter : ℕ) → Bytes (block_of key nonce counter)
unfolding block_of block_from
block-bytes key nonce counter = serialised-bytes _

-- the next block's start state differs in the counter's word
pub start-at : (key nonce : List ℕ) (b c : ℕ) → set (start key nonce b) 12 c ≡ start key nonce c
unfolding start words_of tab
start-at key nonce b c = refl

-- a loop that stores one word a turn
pub serialised_more : (f : ℕ → ℕ) (d : List ℕ) (i : ℕ) {r : List ℕ} {x : ℕ} → r ≡ serialised (tab i f) ++ drop (4 * i) d → x ≡ f i → 4 * i + 4 ≤ length d
    → sets r (4 * i) (le 4 x) ≡ serialised (tab (i + 1) f) ++ drop (4 * (i + 1)) d
unfolding tab
serialised_more f d i {r} {x} e q h =
    let long : length (serialised (tab i f)) ≡ 4 * i = length-serialised (tab i f) ∙ ap (λ (n : ℕ). 4 * n) (length-tab i f) in
    let four : 4 * i + length (le 4 x) ≡ 4 * (i + 1) = rw (length-le 4 x) (omega arith) in
    grows (serialised (tab i f)) d (le 4 x) (4 * i) (4 * (i + 1)) e long four (omega arith)
    ∙ rw (add-one i, serialised_snoc (tab i f) (f i), q)

pub serialised-all : (f : ℕ → ℕ) (d : List ℕ) (n m : ℕ) {r : List ℕ} → r ≡ serialised (tab n f) ++ drop (4 * n) d → n ≡ m → length d ≤ 4 * m → r ≡ serialised (tab m f)
serialised-all f d n m e q h = e ∙ rw (q, drop_of_length-le d h) (append-nil (serialised (tab m f)))

-- a loop that stores one word a turn from a place on
pub serialised-sets : (f : ℕ → ℕ) (d : List ℕ) (at i : ℕ) {r : List ℕ} {x : ℕ} → r ≡ sets d at (serialised (tab i f)) → x ≡ f i
    → sets r (at + 4 * i) (le 4 x) ≡ sets d at (serialised (tab (i + 1) f))
unfolding tab
serialised-sets f d at i {r} {x} e q =
    let long : at + length (serialised (tab i f)) ≡ at + 4 * i = rw (length-serialised (tab i f), length-tab i f) in
    rw (e, q, add-one i, serialised_snoc (tab i f) (f i)) (sym (sets-append d at (serialised (tab i f)) (le 4 (f i)) (at + 4 * i) long))
