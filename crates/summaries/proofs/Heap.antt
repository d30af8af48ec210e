-- The summary as a heap over one volume: a node is the 12 bytes of its entry, and there is nothing else in the buffer.
use Rattle.std.proofs.Common.{◌≡◌, ℕ, ◌*◌, ◌<◌, ◌≤◌, true, false, ltb, ◌⊎◌, List, length, refl, ap, ◌∙◌, inl, inr, arith, ltb-false, ltb-true}
use lib.Seq.{length-sets}
use Rattle.base.proofs.PickLaws.{told}
use Rattle.base.proofs.PartLaws.{part-sets, part-sets-above, part-sets-below}
use Rattle.heaps.specs.Heap.{Heap}
use Rattle.layout.specs.Shape.{height_of, leaves}
use Rattle.layout.specs.declared.Shape.{Shape}
use Rattle.summaries.specs.Entries.{summary_length, entry_at, entry_bytes, entry_part, beneath, put_entry}
use Rattle.summaries.proofs.EntryLaws.{entry-fits, entries_apart, length-entry, beneath-alike}

module _ (s : Shape) (epoch : ℕ) (v : List ℕ) where
  pub length-put : (i : ℕ) (b : List ℕ) → length (put_entry s epoch v i b) ≡ length b
  unfolding put_entry
  length-put i b = length-sets b (entry_at i) (entry_bytes (beneath s epoch v b i))

  pub put_same : (i : ℕ) (b : List ℕ) → length b ≡ summary_length s.n → i < 2 * leaves s.n → entry_part (put_entry s epoch v i b) i ≡ entry_bytes (beneath s epoch v b i)
  unfolding put_entry
  put_same i b l h =
      part-sets b (entry_at i) 12 (entry_bytes (beneath s epoch v b i)) (length-entry (beneath s epoch v b i)) (rw l (entry-fits s.n i h))

  pub put_other : (i j : ℕ) (b : List ℕ) → 1 ≤ i → 1 ≤ j → (i ≡ j → ⊥) → entry_part (put_entry s epoch v i b) j ≡ entry_part b j
  unfolding put_entry
  put_other i j b a c ne = go (told (ltb i j))
    where
      go : (ltb i j ≡ true) ⊎ (ltb i j ≡ false) → entry_part (put_entry s epoch v i b) j ≡ entry_part b j
      go (inl e) =
          part-sets-above (entry_at j) 12 b (entry_at i) (entry_bytes (beneath s epoch v b i)) (rw (length-entry (beneath s epoch v b i)) (entries_apart i j a (ltb-true i j e)))
      go (inr e) = part-sets-below (entry_at j) 12 b (entry_at i) (entry_bytes (beneath s epoch v b i)) (entries_apart j i c (omega (arith, ltb-false i j e, ne)))

  abbrev pub sum_heap : Heap (List ℕ) (List ℕ)
  sum_heap =
      record {
        height = height_of s.n;
        count = s.n;
        cell = entry_part;
        made = λ b i. entry_bytes (beneath s epoch v b i);
        put = put_entry s epoch v;
        Fit = λ b. length b ≡ summary_length s.n;
        Kin = λ b c. length c ≡ length b;
        kin_refl = λ b. refl;
        kin_trans = λ e f. f ∙ e;
        kin_fit = λ e l. e ∙ l;
        put_kin = λ i b a h. length-put i b;
        put_same = put_same;
        put_other = put_other;
        made_kin = λ {x} {y} i a e p q. ap entry_bytes (beneath-alike s epoch v y x i (λ h. (p, q)));
      }
