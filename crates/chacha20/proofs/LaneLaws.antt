-- Eight states that lie word by word: what stands in a lane after stores, and the blocks of all lanes.
use Rattle.std.proofs.Common.{◌≡◌, ℕ, zero, suc, ◌+◌, ◌*◌, ◌/◌, ◌%◌, ◌<◌, ◌≤◌, ltb, List, ◌++◌, length, get_or, drop, set, sym, refl, ap, ◌∙◌, ⊎_elim, append-nil, add-one, arith, length-append, length-set, drop_of_length-le, get_or-set_other, get_or-set_same, ltb-false, ltb-true}
use lib.Seq.{sets}
use Rattle.base.specs.Lists.{tab}
use Rattle.base.proofs.TabLaws.{length-tab, get_or-tab, tab_ext}
use Rattle.base.proofs.PartLaws.{grows, sets_below, sets-above, sets-inside}
use Rattle.base.proofs.PickLaws.{told}
use Rattle.words.specs.Word.{add32}
use Rattle.words.specs.Le.{words_of, serialised}
use Rattle.words.proofs.LeLaws.{length-serialised}
use Rattle.chacha20.specs.ChaCha20.{start, added, double_round, double_rounds, twenty_rounds, block_from, block_of, keystream}
use Rattle.chacha20.specs.Lanes.{lane, later, LanesPut, Each, repeated, counters, Spread, wide_added, lane_blocks, blocks_from}
use Rattle.chacha20.proofs.RoundLaws.{listed}

-- the first i words of s and t are laid into lanes l and 4 + l
pub record Part (i l : ℕ) (s t w v : List ℕ) : Type 0 where
  pub long : length v ≡ length w
  pub low : (k : ℕ) → k < i → get_or v (8 * k + l) 0 ≡ get_or s k 0
  pub high : (k : ℕ) → k < i → get_or v (8 * k + (4 + l)) 0 ≡ get_or t k 0
  pub others : (j k : ℕ) → j < 8 → (j % 4 ≡ l → ⊥) → get_or v (8 * k + j) 0 ≡ get_or w (8 * k + j) 0

pub part_none : (l : ℕ) (s t w : List ℕ) → Part 0 l s t w w
part_none l s t w =
    record {
      long = refl;
      low = λ k h. absurd (omega arith);
      high = λ k h. absurd (omega arith);
      others = λ j k h d. refl;
    }

-- what holds below i and at i holds below i + 1
to_next : (Q : ℕ → Type 0) (i : ℕ) → ((k : ℕ) → k < i → Q k) → Q i → (k : ℕ) → k < i + 1 → Q k
to_next Q i below at k h =
    ⊎_elim (λ e. below k (ltb-true k i e))
    (λ e. let z : k ≡ i = omega (arith, ltb-false k i e) in
    rw z at)
    (told (ltb k i))

pub part_more : (i l : ℕ) (s t w v : List ℕ) {x y : ℕ} → l < 4 → i < 16 → length v ≡ 128 → x ≡ get_or s i 0 → y ≡ get_or t i 0 → Part i l s t w v
    → Part (i + 1) l s t w (set (set v (8 * i + l) x) (8 * i + (4 + l)) y)
part_more i l s t w v {x} {y} small less long p q now =
    let a = 8 * i + l in
    let b = 8 * i + (4 + l) in
    let v₁ = set v a x in
    let wide : length v₁ ≡ 128 = length-set v a x ∙ long in
    let low-other : (k : ℕ) → k < i → get_or (set v₁ b y) (8 * k + l) 0 ≡ get_or s k 0 =
    λ k h. get_or-set_other v₁ b (8 * k + l) y 0 (λ e. omega arith) ∙ get_or-set_other v a (8 * k + l) x 0 (λ e. omega arith) ∙ now.low k h in
    let low_same : get_or (set v₁ b y) a 0 ≡ get_or s i 0 = get_or-set_other v₁ b a y 0 (λ e. omega arith) ∙ get_or-set_same v a x 0 (omega arith) ∙ p in
    let high-other : (k : ℕ) → k < i → get_or (set v₁ b y) (8 * k + (4 + l)) 0 ≡ get_or t k 0 =
    λ k h. get_or-set_other v₁ b (8 * k + (4 + l)) y 0 (λ e. omega arith) ∙ get_or-set_other v a (8 * k + (4 + l)) x 0 (λ e. omega arith) ∙ now.high k h in
    let high_same : get_or (set v₁ b y) b 0 ≡ get_or t i 0 = get_or-set_same v₁ b y 0 (omega arith) ∙ q in
    record {
      long = length-set v₁ b y ∙ length-set v a x ∙ now.long;
      low = to_next (λ k. get_or (set v₁ b y) (8 * k + l) 0 ≡ get_or s k 0) i low-other low_same;
      high = to_next (λ k. get_or (set v₁ b y) (8 * k + (4 + l)) 0 ≡ get_or t k 0) i high-other high_same;
      others =
          λ j k h d. get_or-set_other v₁ b (8 * k + j) y 0 (λ e. d (omega arith)) ∙ get_or-set_other v a (8 * k + j) x 0 (λ e. d (omega arith)) ∙ now.others j k h d;
    }

pub part-all : (i l : ℕ) (s t w v : List ℕ) → Part i l s t w v → i ≡ 16 → length s ≡ 16 → length t ≡ 16 → LanesPut l s t w v
unfolding lane
part-all i l s t w v all e f g =
    record {
      long = all.long;
      low = tab_ext 16 _ (λ k. get_or s k 0) (λ k h. all.low k (omega arith)) ∙ sym (listed s f);
      high = tab_ext 16 _ (λ k. get_or t k 0) (λ k h. all.high k (omega arith)) ∙ sym (listed t g);
      others = λ j h d. tab_ext 16 _ _ (λ k b. all.others j k h d);
    }

-- the state in every lane, and the counters of eight blocks laid over its word 12
module _ (s : List ℕ) (long : length s ≡ 16) where
  abbrev first : ℕ
  first = get_or s 12 0

  repeated-at : (j k : ℕ) → j < 8 → k < 16 → get_or (repeated s) (8 * k + j) 0 ≡ get_or s k 0
  unfolding repeated
  repeated-at j k h l =
      let e : (8 * k + j) / 8 ≡ k = omega arith in
      get_or-tab 128 (λ n. get_or s (n / 8) 0) (8 * k + j) 0 (omega arith) ∙ ap (λ (n : ℕ). get_or s n 0) e

  length-counters : length (counters first) ≡ 8
  unfolding counters
  length-counters = length-tab 8 (λ i. add32 first i)

  -- a word other than the counter
  still : (j k : ℕ) → j < 8 → k < 16 → (k ≡ 12 → ⊥) → get_or (repeated s) (8 * k + j) 0 ≡ get_or (later s j) k 0
  unfolding later
  still j k h l d = repeated-at j k h l ∙ sym (get_or-set_other s 12 k (add32 first j) 0 d)

  counter_at : (j : ℕ) → j < 8 → get_or (sets (repeated s) 96 (counters first)) (8 * 12 + j) 0 ≡ get_or (later s j) 12 0
  unfolding later repeated counters
  counter_at j h =
      sets-inside (repeated s) 96 8 (counters first) j length-counters (rw (length-tab 128 (λ n. get_or s (n / 8) 0)) (omega arith)) h
      ∙ get_or-tab 8 (λ i. add32 first i) j 0 h ∙ sym (get_or-set_same s 12 (add32 first j) 0 (omega arith))

  word_at : (j k : ℕ) → j < 8 → k < 16 → get_or (sets (repeated s) 96 (counters first)) (8 * k + j) 0 ≡ get_or (later s j) k 0
  word_at j k h l =
      ⊎_elim
      (λ e. let b : k < 12 = ltb-true k 12 e in
      sets_below (repeated s) 96 (counters first) (8 * k + j) (omega arith) ∙ still j k h l (λ q. omega arith))
      (λ e. ⊎_elim
      (λ f. let b : 12 < k = ltb-true 12 k f in
      sets-above (repeated s) 96 (counters first) (8 * k + j) (rw length-counters (omega arith)) ∙ still j k h l (λ q. omega arith))
      (λ f. let z : k ≡ 12 = omega (arith, ltb-false k 12 e, ltb-false 12 k f) in
      rw z (counter_at j h))
      (told (ltb 12 k)))
      (told (ltb k 12))

  pub spread-all : {w v : List ℕ} → v ≡ repeated s → w ≡ sets v 96 (counters first) → Spread s w
  unfolding lane later
  spread-all d e =
      record {
        at =
            λ j h. rw (e, d)
            (tab_ext 16 _ (λ k. get_or (later s j) k 0) (λ k l. word_at j k h l)
            ∙ sym (listed (later s j) (length-set s 12 (add32 first j) ∙ long)));
      }

-- the sums of all words are lane by lane the sums of the states
added_lanes : (w s : List ℕ) (l : ℕ) → l < 8 → lane (wide_added w s) l ≡ added (lane w l) (lane s l)
unfolding added lane wide_added
added_lanes w s l b =
    tab_ext 16 _ _ (λ k h. get_or-tab 128 (λ n. add32 (get_or w n 0) (get_or s n 0)) (8 * k + l) 0 (omega arith)
    ∙ sym (rw (get_or-tab 16 (λ i. get_or w (8 * i + l) 0) k 0 h, get_or-tab 16 (λ i. get_or s (8 * i + l) 0) k 0 h)))

length-lane-block : (x : List ℕ) (l : ℕ) → length (serialised (lane x l)) ≡ 64
unfolding lane
length-lane-block x l = length-serialised (lane x l) ∙ ap (λ (n : ℕ). 4 * n) (length-tab 16 _)

length-lane_blocks : (x : List ℕ) (n : ℕ) → length (lane_blocks x n) ≡ 64 * n
unfolding lane_blocks
length-lane_blocks x zero = refl
length-lane_blocks x (suc n) =
    length-append (lane_blocks x n) (serialised (lane x n)) ∙ rw (length-lane_blocks x n, length-lane-block x n) (omega arith)

-- a turn that stores the block of lane l
pub blocks_more : (x d : List ℕ) (l : ℕ) {r : List ℕ} → r ≡ lane_blocks x l ++ drop (64 * l) d → 64 * (l + 1) ≤ length d
    → sets r (64 * l) (serialised (lane x l)) ≡ lane_blocks x (l + 1) ++ drop (64 * (l + 1)) d
unfolding lane_blocks
blocks_more x d l e h =
    let next : 64 * l + length (serialised (lane x l)) ≡ 64 * (l + 1) = rw (length-lane-block x l) (omega arith) in
    grows (lane_blocks x l) d (serialised (lane x l)) (64 * l) (64 * (l + 1)) e (length-lane_blocks x l) next h ∙ rw (add-one l)

pub blocks-all : (x d : List ℕ) (n m : ℕ) {r : List ℕ} → r ≡ lane_blocks x n ++ drop (64 * n) d → n ≡ m → length d ≤ 64 * m → r ≡ lane_blocks x m
blocks-all x d n m e q h = e ∙ rw (q, drop_of_length-le d h) (append-nil (lane_blocks x m))

-- twenty rounds in every lane, and the sums: the blocks of eight counters
pub lanes_blocks : (s w x : List ℕ) → Spread s w → Each twenty_rounds w x → (n : ℕ) → n ≤ 8 → lane_blocks (wide_added x w) n ≡ blocks_from s n
unfolding lane_blocks blocks_from block_from
lanes_blocks s w x from each zero h = refl
lanes_blocks s w x from each (suc n) h =
    let less : n < 8 = omega arith in
    rw (lanes_blocks s w x from each n (omega arith), added_lanes x w n less, each.at n less, from.at n less)

later-start : (key nonce : List ℕ) (c n : ℕ) → later (start key nonce c) n ≡ start key nonce (add32 c n)
unfolding later start words_of tab
later-start key nonce c n = refl

pub blocks-keystream : (key nonce : List ℕ) (c n : ℕ) → blocks_from (start key nonce c) n ≡ keystream key nonce c n
unfolding blocks_from keystream block_of
blocks-keystream key nonce c zero = refl
blocks-keystream key nonce c (suc n) = rw (blocks-keystream key nonce c n, later-start key nonce c n)

-- the lanes below l of each half are a double round further
pub record Rounded (l : ℕ) (w v : List ℕ) : Type 0 where
  pub long : length v ≡ length w
  pub done : (j : ℕ) → j < 8 → j % 4 < l → lane v j ≡ double_round (lane w j)
  pub left : (j : ℕ) → j < 8 → l ≤ j % 4 → lane v j ≡ lane w j

pub rounded_none : (w : List ℕ) → Rounded 0 w w
rounded_none w =
    record {
      long = refl;
      done = λ j h b. absurd (omega arith);
      left = λ j h b. refl;
    }

pub rounded_more : (l : ℕ) (w v u : List ℕ) {s t : List ℕ} → l < 4 → s ≡ double_round (lane v l) → t ≡ double_round (lane v (4 + l)) → LanesPut l s t v u
    → Rounded l w v → Rounded (l + 1) w u
rounded_more l w v u small p q put now =
    let low : lane u l ≡ double_round (lane w l) = put.low ∙ p ∙ ap double_round (now.left l (omega arith) (omega arith)) in
    let high : lane u (4 + l) ≡ double_round (lane w (4 + l)) = put.high ∙ q ∙ ap double_round (now.left (4 + l) (omega arith) (omega arith)) in
    record {
      long = put.long ∙ now.long;
      done =
          λ j h b. ⊎_elim
          (λ e. let f : j % 4 < l = ltb-true (j % 4) l e in
          put.others j h (λ z. omega arith) ∙ now.done j h f)
          (λ e. let f : l ≤ j % 4 = ltb-false (j % 4) l e in
          ⊎_elim
          (λ g. let z : j ≡ l = omega (arith, ltb-true j 4 g) in
          rw z low)
          (λ g. let z : j ≡ 4 + l = omega (arith, ltb-false j 4 g) in
          rw z high)
          (told (ltb j 4)))
          (told (ltb (j % 4) l));
      left = λ j h b. put.others j h (λ z. omega arith) ∙ now.left j h (omega arith);
    }

pub rounded_all : (l : ℕ) (w v : List ℕ) → Rounded l w v → l ≡ 4 → Each double_round w v
rounded_all l w v all e =
    record {
      long = all.long;
      at = λ j h. all.done j h (omega arith);
    }

pub each_none : (w : List ℕ) → Each (double_rounds 0) w w
unfolding double_rounds
each_none w =
    record {
      long = refl;
      at = λ j h. refl;
    }

pub each_more : (i : ℕ) (w v u : List ℕ) → Each (double_rounds i) w v → Each double_round v u → Each (double_rounds (i + 1)) w u
unfolding double_rounds
each_more i w v u now next =
    record {
      long = next.long ∙ now.long;
      at = λ j h. rw (add-one i) (next.at j h ∙ ap double_round (now.at j h));
    }
