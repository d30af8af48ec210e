-- Piece after piece the flake is laid anew, and that is its new contents under the new pad.
use mathlib.Core.Path.{◌≡◌, refl, ap, sym, ◌∙◌}
use mathlib.Core.Logic.{⊎_elim}
use mathlib.Core.List.{List, ◌++◌}
use Prim.Native.Nat.{ℕ, ◌+◌, ◌<◌, ◌≤◌}
use native.Mathlib.Omega.{arith}
use lib.Bits.{bit_xor}
use lib.ListN.{length, get_or, drop, length-replicate, get_or-replicate}
use lib.Seq.{drop_at, drop-drop}
use borrow.Rule.Slice.PartMut.{mid_of, put_mid}
use Rattle.base.specs.Lists.{tab, part}
use Rattle.base.proofs.PickLaws.{told}
use Rattle.base.proofs.PartLaws.{length_part, get_or-part}
use Rattle.base.proofs.TabLaws.{length-tab, get_or-tab, tab_ext, tab-part, tab-all}
use Rattle.words.specs.Xor.{xorl}
use Rattle.words.proofs.XorLaws.{length-xorl, get_or-xorl}
use Rattle.records.specs.Journal.{bit}
use Rattle.keys.specs.declared.Lock.{Lock}
use Rattle.keys.specs.Pads.{pad_of, under}
use Rattle.keys.proofs.PadLaws.{length-under}
use Rattle.nuggets.specs.declared.Nugget.{Nugget}
use Rattle.changes.specs.Laid.{over}
use Rattle.relaying.specs.Flake.{opened_flake, overlaid, anew, opened_byte, relaid_byte, relaid}
use Rattle.relaying.proofs.Zones.{by_bytes}

pub length-opened : (g : Nugget) (f : ℕ) (l : List ℕ) → length (opened_flake g f l) ≡ length l
unfolding opened_flake
length-opened g f l =
    ⊎_elim (λ here. rw here (length-under g.lock f (length l) l)) (λ gone. rw gone (length-replicate (length l) 0)) (told (bit g.held f))

-- byte by byte
opened_byte_lem : (g : Nugget) (f : ℕ) (l : List ℕ) (i : ℕ) → i < length l → get_or (opened_flake g f l) i 0 ≡ opened_byte g f (length l) i (get_or l i 0)
unfolding opened_flake
opened_byte_lem g f l i h =
    ⊎_elim (λ here. rw here (get_or-xorl l (pad_of g.lock f (length l)) i h)) (λ gone. rw gone (get_or-replicate (length l) i 0 0 h)) (told (bit g.held f))

pub length-overlaid : (start o : ℕ) (bytes l : List ℕ) → length (overlaid start o bytes l) ≡ length l
unfolding overlaid
length-overlaid start o bytes l = length-tab (length l) (λ b. over o bytes (start + b) (get_or l b 0))

module _ (g : Nugget) (lock : Lock) (f start o : ℕ) (bytes l : List ℕ) where
  -- what byte j becomes
  abbrev pub Byte : ℕ → ℕ
  Byte j = relaid_byte g lock f (length l) start o bytes j (get_or l j 0)

  -- the pieces before `at` are laid, and what is behind stands as it stood
  abbrev pub Upto : ℕ → List ℕ → Type 0
  Upto at d = d ≡ tab at Byte ++ drop at l

  pub none-laid : Upto 0 l
  unfolding tab
  none-laid = refl

  -- one more piece
  pub piece_more : (at n : ℕ) {d z : List ℕ} → at + n ≤ length l → Upto at d → z ≡ relaid g lock f (length l) start o bytes at (mid_of at n d)
      → Upto (at + n) (put_mid at n d z)
  unfolding relaid
  piece_more at n {d} {z} room e ez =
      let rest : drop at d ≡ drop at l = rw e (drop_at (tab at Byte) (drop at l) at (length-tab at Byte)) in
      let same : mid_of at n d ≡ part at n l = ap (λ (x : List ℕ). part 0 n x) rest in
      let long : length (part at n l) ≡ n = length_part at n l room in
      let own : z ≡ tab n (λ j. Byte (at + j)) =
      ez ∙ rw (same, long)
      (tab_ext n _ _ (λ i h. ap (λ (x : ℕ). relaid_byte g lock f (length l) start o bytes (at + i) x) (get_or-part at n l i 0 h))) in
      rw (drop-drop n at d) (tab-part Byte l at n e own)

  -- all of them
  pub all_laid : (at : ℕ) {d : List ℕ} → Upto at d → at ≡ length l → d ≡ under lock f (length l) (anew g f start o bytes l)
  unfolding overlaid
  all_laid at e q =
      let n = length l in
      let c = opened_flake g f l in
      let m = overlaid start o bytes c in
      let lm : length m ≡ n = length-overlaid start o bytes c ∙ length-opened g f l in
      tab-all Byte l at n e q (omega arith)
      ∙ sym (by_bytes n Byte (xorl m (pad_of lock f n)) (length-xorl m (pad_of lock f n) ∙ lm) (λ i h.
      let low : i < length c = rw (length-opened g f l) h in
      get_or-xorl m (pad_of lock f n) i (rw lm h)
      ∙ ap (λ (x : ℕ). bit_xor x (get_or (pad_of lock f n) i 0))
      (get_or-tab (length c) (λ b. over o bytes (start + b) (get_or c b 0)) i 0 low ∙ ap (λ (x : ℕ). over o bytes (start + i) x) (opened_byte_lem g f l i h))))
