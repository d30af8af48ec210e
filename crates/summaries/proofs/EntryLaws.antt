-- An entry: its bytes decide it, it is read back, and what it has to tell hangs on its two or on its nugget's record.
use Prim.{tt}
use Rattle.std.proofs.Common.{◌≡◌, ℕ, ◌+◌, ◌-◌, ◌*◌, ◌^◌, ◌<◌, ◌≤◌, Bool, true, false, eqb, ltb, ◌⊎◌, List, length, sym, refl, ap, ◌∙◌, inl, inr, add-zero, arith, ltb-false, ltb-true, le-ltb, lt-ltb}
use lib.Seq.{sets}
use Rattle.base.specs.Lists.{part}
use Rattle.base.specs.Pick.{pick}
use Rattle.base.proofs.PickLaws.{yes, no, told}
use Rattle.words.specs.Le.{num, le}
use Rattle.codec.specs.Row.{AllLong, AllFit, ◌&◌}
use Rattle.codec.proofs.RowLaws.{length-row, apart, read_back, row_told, row-stored}
use Rattle.layout.specs.declared.Shape.{Shape}
use Rattle.layout.specs.Shape.{leaves}
use Rattle.layout.proofs.Height.{leaves-some}
use Rattle.records.specs.declared.Record.{Record}
use Rattle.records.specs.Record.{record_of}
use Rattle.records.specs.Journal.{flake_count}
use Rattle.records.proofs.CountLaws.{present-le}
use Rattle.reports.specs.declared.told.Counts.{Counts}
use Rattle.reports.specs.Counts.{count_of, none}
use Rattle.summaries.specs.Entries.{summary_length, entry_at, entry_row, entry_values, entry_from, entry_bytes, entry_part, entry_in, rolled, at_leaf, beneath}

-- where entries stand
pub entry-fits : (n i : ℕ) → i < 2 * leaves n → entry_at i + 12 ≤ summary_length n
entry-fits n i h = omega (arith, leaves-some n)

pub entries_apart : (i j : ℕ) → 1 ≤ i → i < j → entry_at i + 12 ≤ entry_at j
entries_apart i j a h = omega arith

long : (c : Counts) → AllLong entry_row (entry_values c)
long c = tt & tt & tt & tt

pub length-entry : (c : Counts) → length (entry_bytes c) ≡ 12
unfolding entry_bytes
length-entry c = length-row entry_row (entry_values c) (long c)

-- the code's three stores, and its three loads
pub entry_stores_lem : (b : List ℕ) (i : ℕ) (c : Counts) {at : ℕ} {x y z : List ℕ} → at ≡ entry_at i → x ≡ sets b at (le 4 c.moved) → y ≡ sets x (at + 4) (le 4 c.flakes)
    → z ≡ sets y (at + 8) (le 4 c.done) → z ≡ sets b (entry_at i) (entry_bytes c)
unfolding entry_bytes
entry_stores_lem b i c ea ex ey ez = rw (ez, ey, ex, ea) (row-stored entry_row (entry_at i) b (entry_values c) (long c))

pub entry_loads : (b : List ℕ) (i : ℕ) {at m f d : ℕ} → at ≡ entry_at i → m ≡ num (part at 4 b) → f ≡ num (part (at + 4) 4 b) → d ≡ num (part (at + 8) 4 b)
    → ◌≡◌ {A = Counts} (record { moved = m; flakes = f; done = d }) (entry_in b i)
unfolding entry_in
entry_loads b i ea em ef ed = rw (em, ef, ed, ea)

-- the bytes decide the entry
pub entry-told : (b c : List ℕ) (i : ℕ) → entry_part b i ≡ entry_part c i → entry_in b i ≡ entry_in c i
unfolding entry_in
entry-told b c i e = ap entry_from (row_told entry_row (entry_at i) b c e)

-- each number has its 4 bytes
abbrev pub FitsFour : Counts → Type 0
FitsFour c = (c.moved < 2 ^ 32) × (c.flakes < 2 ^ 32) × (c.done < 2 ^ 32)

fit : (c : Counts) → FitsFour c → AllFit entry_row (entry_values c)
fit c q = q.0 & q.1 & q.2 & tt

pub entry_read : (b : List ℕ) (i : ℕ) (c : Counts) → FitsFour c → entry_part b i ≡ entry_bytes c → entry_in b i ≡ c
unfolding entry_in entry_bytes
entry_read b i c q e =
    ap entry_from
    (read_back entry_row (entry_at i) 0 (entry_values c) b (fit c q) (apart entry_row (entry_at i) 0 (entry_values c) b (long c) (rw (add-zero (entry_at i)) (sym e))))

-- one record counts for little
pub count-few : (epoch : ℕ) (r : Record) → ((count_of 64 epoch r).moved ≤ 1) × ((count_of 64 epoch r).flakes ≤ 64) × ((count_of 64 epoch r).done ≤ 64)
unfolding count_of
count-few epoch r = go (eqb r.epoch epoch) (flake_count 64 r.held) (present-le 64 r.held)
  where
    go : (b : Bool) (k : ℕ) → k ≤ 64 → (pick b 1 0 ≤ 1) × (k ≤ 64) × (pick b k 0 ≤ 64)
    go true k h = (omega arith, h, h)
    go false k h = (omega arith, h, omega arith)

rolled_narrow : (a b : Counts) → FitsFour (rolled a b)
unfolding rolled
rolled_narrow a b = (omega arith, omega arith, omega arith)

-- the three kinds of node
module _ (s : Shape) (epoch : ℕ) (v b : List ℕ) (i : ℕ) where
  pub beneath-two : i < leaves s.n → beneath s epoch v b i ≡ rolled (entry_in b (2 * i)) (entry_in b (2 * i + 1))
  unfolding beneath
  beneath-two h = yes _ (lt-ltb _ _ h) refl

  pub beneath-leaf : leaves s.n ≤ i → beneath s epoch v b i ≡ at_leaf s epoch v i
  unfolding beneath
  beneath-leaf h = no _ (le-ltb _ _ h) refl

pub leaf-nugget : (s : Shape) (epoch : ℕ) (v : List ℕ) (i : ℕ) → i < leaves s.n + s.n → at_leaf s epoch v i ≡ count_of 64 epoch (record_of s v (i - leaves s.n))
unfolding at_leaf
leaf-nugget s epoch v i h = yes _ (lt-ltb _ _ h) refl

pub leaf-past : (s : Shape) (epoch : ℕ) (v : List ℕ) (i : ℕ) → leaves s.n + s.n ≤ i → at_leaf s epoch v i ≡ none
unfolding at_leaf
leaf-past s epoch v i h = no _ (le-ltb _ _ h) refl

pub leaf-few : (s : Shape) (epoch : ℕ) (v : List ℕ) (i : ℕ) → ((at_leaf s epoch v i).moved ≤ 1) × ((at_leaf s epoch v i).flakes ≤ 64) × ((at_leaf s epoch v i).done ≤ 64)
leaf-few s epoch v i = go (told (ltb i (leaves s.n + s.n)))
  where
    go : (ltb i (leaves s.n + s.n) ≡ true) ⊎ (ltb i (leaves s.n + s.n) ≡ false) → ((at_leaf s epoch v i).moved ≤ 1) × ((at_leaf s epoch v i).flakes ≤ 64) × ((at_leaf s epoch v i).done ≤ 64)
    go (inl e) = rw (leaf-nugget s epoch v i (ltb-true _ _ e)) (count-few epoch (record_of s v (i - leaves s.n)))
    go (inr e) = rw (leaf-past s epoch v i (ltb-false _ _ e)) (omega arith, omega arith, omega arith)

pub beneath_narrow : (s : Shape) (epoch : ℕ) (v b : List ℕ) (i : ℕ) → FitsFour (beneath s epoch v b i)
beneath_narrow s epoch v b i = go (told (ltb i (leaves s.n)))
  where
    go : (ltb i (leaves s.n) ≡ true) ⊎ (ltb i (leaves s.n) ≡ false) → FitsFour (beneath s epoch v b i)
    go (inl e) = rw (beneath-two s epoch v b i (ltb-true _ _ e)) (rolled_narrow (entry_in b (2 * i)) (entry_in b (2 * i + 1)))
    go (inr e) =
        let few = leaf-few s epoch v i in
        rw (beneath-leaf s epoch v b i (ltb-false _ _ e)) (omega (arith, few.0), omega (arith, few.1), omega (arith, few.2))

-- over two buffers, alike in the two entries below
pub beneath-alike : (s : Shape) (epoch : ℕ) (v b c : List ℕ) (i : ℕ)
    → (i < leaves s.n → (entry_part b (2 * i) ≡ entry_part c (2 * i)) × (entry_part b (2 * i + 1) ≡ entry_part c (2 * i + 1)))
    → beneath s epoch v b i ≡ beneath s epoch v c i
beneath-alike s epoch v b c i two = go (told (ltb i (leaves s.n)))
  where
    go : (ltb i (leaves s.n) ≡ true) ⊎ (ltb i (leaves s.n) ≡ false) → beneath s epoch v b i ≡ beneath s epoch v c i
    go (inl e) =
        let h = ltb-true _ _ e in
        beneath-two s epoch v b i h ∙ rw (entry-told b c (2 * i) (two h).0, entry-told b c (2 * i + 1) (two h).1) refl ∙ sym (beneath-two s epoch v c i h)
    go (inr e) = beneath-leaf s epoch v b i (ltb-false _ _ e) ∙ sym (beneath-leaf s epoch v c i (ltb-false _ _ e))

-- over two volumes, alike in the nugget's record
pub beneath-same : (s : Shape) (epoch : ℕ) (v w b : List ℕ) (i : ℕ)
    → (leaves s.n ≤ i → i < leaves s.n + s.n → record_of s v (i - leaves s.n) ≡ record_of s w (i - leaves s.n))
    → beneath s epoch v b i ≡ beneath s epoch w b i
beneath-same s epoch v w b i x = go (told (ltb i (leaves s.n))) (told (ltb i (leaves s.n + s.n)))
  where
    go : (ltb i (leaves s.n) ≡ true) ⊎ (ltb i (leaves s.n) ≡ false) → (ltb i (leaves s.n + s.n) ≡ true) ⊎ (ltb i (leaves s.n + s.n) ≡ false)
        → beneath s epoch v b i ≡ beneath s epoch w b i
    go (inl e) f = beneath-two s epoch v b i (ltb-true _ _ e) ∙ sym (beneath-two s epoch w b i (ltb-true _ _ e))
    go (inr e) (inl f) =
        let h = ltb-false _ _ e in
        let k = ltb-true _ _ f in
        beneath-leaf s epoch v b i h ∙ leaf-nugget s epoch v i k ∙ ap (count_of 64 epoch) (x h k)
        ∙ sym (beneath-leaf s epoch w b i h ∙ leaf-nugget s epoch w i k)
    go (inr e) (inr f) =
        let h = ltb-false _ _ e in
        let k = ltb-false _ _ f in
        beneath-leaf s epoch v b i h ∙ leaf-past s epoch v i k ∙ sym (beneath-leaf s epoch w b i h ∙ leaf-past s epoch w i k)
