-- New keystream becomes what is to be stored: the written bytes over it; beside them the old keystream and then the stored bytes.
use mathlib.Core.Path.{◌≡◌, refl, ap, sym, ◌∙◌}
use mathlib.Core.Bool.{true, false}
use mathlib.Core.Logic.{◌⊎◌, inl, inr, ⊎_elim}
use mathlib.Core.List.{List, ◌++◌}
use Prim.Native.Nat.{ℕ, ◌+◌, ◌-◌, ◌<◌, ◌≤◌}
use native.Mathlib.Omega.{arith}
use lib.Bits.{bit_xor, xor_comm, xor_zero_l}
use lib.Dec.{leb, ltb}
use lib.ListN.{length, get_or}
use lib.Seq.{sets, length-sets, take_at, get_or-take, length-take-le}
use borrow.Author.Tests.{lt-ltb, le-ltb, le-leb, lt-leb}
use borrow.Rule.Slice.PartMut.{mid_of, post_of, put_mid}
use Rattle.base.specs.Pick.{pick, both}
use Rattle.base.specs.Lists.{part}
use Rattle.base.proofs.PickLaws.{yes, no, both-on, both_off}
use Rattle.base.proofs.PartLaws.{get_or-part}
use Rattle.base.proofs.TabLaws.{length-tab, get_or-tab, tab_ext}
use Rattle.words.specs.Xor.{xorl}
use Rattle.words.proofs.XorLaws.{xor_assoc}
use Rattle.records.specs.Journal.{bit}
use Rattle.keys.specs.declared.Lock.{Lock}
use Rattle.keys.specs.Pads.{pad_of, pad_from}
use Rattle.keys.proofs.StreamLaws.{pad-byte, length-pad_from}
use Rattle.nuggets.specs.declared.Nugget.{Nugget}
use Rattle.changes.specs.Laid.{over}
use Rattle.relaying.specs.Flake.{Met, laid_beside, opened_byte, relayed, relaid_byte, relaid}
use Rattle.relaying.proofs.Zones.{by_bytes, zoned, laid-at, laid-before, laid-behind, laid-back}

-- one byte: k of the new keystream, p of the old, x stored: the old keystream and then the stored byte, over the new keystream
held-xor : (k p x : ℕ) → bit_xor (bit_xor k p) x ≡ bit_xor (bit_xor x p) k
held-xor k p x = xor_comm (bit_xor k p) x ∙ ap (λ (y : ℕ). bit_xor x y) (xor_comm k p) ∙ sym (xor_assoc x p k)

-- bytes laid beside others
module _ (at end : ℕ) (x k : List ℕ) {z : List ℕ} (ez : z ≡ laid_beside at end x k) where
  abbrev Beside : ℕ → ℕ
  Beside i = pick (both (leb at i) (ltb i end)) (get_or k i 0) (bit_xor (get_or k i 0) (get_or x i 0))

  pub length_beside : length z ≡ length k
  unfolding laid_beside
  length_beside = rw ez (length-tab (length k) Beside)

  byte_beside : (i : ℕ) → i < length k → get_or z i 0 ≡ Beside i
  unfolding laid_beside
  byte_beside i l = rw ez (get_or-tab (length k) Beside i 0 l)

  beside_in : (i : ℕ) → i < length k → at ≤ i → i < end → get_or z i 0 ≡ get_or k i 0
  beside_in i l a b = byte_beside i l ∙ yes _ (both-on (le-leb at i a) (lt-ltb i end b)) refl

  beside_before : (i : ℕ) → i < length k → i < at → get_or z i 0 ≡ bit_xor (get_or k i 0) (get_or x i 0)
  beside_before i l a = byte_beside i l ∙ no _ (both_off _ (lt-leb at i a)) refl

  beside_behind : (i : ℕ) → i < length k → at ≤ i → end ≤ i → get_or z i 0 ≡ bit_xor (get_or k i 0) (get_or x i 0)
  beside_behind i l a b = byte_beside i l ∙ no _ (both-on (le-leb at i a) (le-ltb i end b)) refl

module _ (g : Nugget) (f size at start o : ℕ) (bytes stored k : List ℕ) (here n from : ℕ) (met : Met start (length k) o (length bytes) here n from) where
  -- what stands at byte i of the piece in the end
  abbrev Byte : ℕ → ℕ
  Byte i = bit_xor (over o bytes (start + i) (opened_byte g f size (at + i) (get_or stored i 0))) (get_or k i 0)

  abbrev room : here + n ≤ length k
  room = met.room

  module _ {y : List ℕ} (ey : y ≡ xorl (part here n k) (part from n bytes)) where
    -- the written bytes over the keystream
    abbrev x : List ℕ
    x = sets k here y

    written_in : (i : ℕ) → here ≤ i → i < here + n → get_or x i 0 ≡ Byte i
    written_in i a b =
        let w = get_or bytes (from + (i - here)) 0 in
        laid-at k (part from n bytes) here n room ey i a b
        ∙ ap (λ (q : ℕ). bit_xor (get_or k i 0) q) (get_or-part from n bytes (i - here) 0 (omega (arith, a, b)))
        ∙ xor_comm (get_or k i 0) w
        ∙ ap (λ (q : ℕ). bit_xor q (get_or k i 0)) (ap (λ (q : ℕ). get_or bytes q 0) (sym (met.byte i a b)) ∙ sym (yes _ (met.inside i a b) refl))

    -- beside them nothing is written
    unwritten : (i : ℕ) → i < length k → (i < here) ⊎ (here + n ≤ i) → opened_byte g f size (at + i) (get_or stored i 0) ≡ over o bytes (start + i) (opened_byte g f size (at + i) (get_or stored i 0))
    unwritten i l h = sym (no _ (⊎_elim (λ a. met.before i a) (λ c. met.behind i c l) h) refl)

    -- an absent flake reads as zeros
    pub relay_absent : bit g.held f ≡ false → put_mid here n k y ≡ relayed g f size at start o bytes stored k
    unfolding relayed
    relay_absent gone =
        let bare : (i : ℕ) → i < length k → (i < here) ⊎ (here + n ≤ i) → get_or k i 0 ≡ Byte i =
        λ i l h. sym (xor_zero_l (get_or k i 0)) ∙ ap (λ (q : ℕ). bit_xor q (get_or k i 0)) (sym (no _ gone refl) ∙ unwritten i l h) in
        laid-back k (part from n bytes) here n room ey
        ∙ by_bytes (length k) Byte x (length-sets k here y) (λ i l.
        zoned (get_or x i 0 ≡ Byte i) i here (here + n)
        (λ a. laid-before k (part from n bytes) here n room ey i a ∙ bare i l (inl a))
        (λ a b. written_in i a b)
        (λ c. laid-behind k (part from n bytes) here n room ey i c ∙ bare i l (inr c)))

    -- all of the piece is written
    pub relay-covered : length k ≤ n → put_mid here n k y ≡ relayed g f size at start o bytes stored k
    unfolding relayed
    relay-covered all =
        laid-back k (part from n bytes) here n room ey
        ∙ by_bytes (length k) Byte x (length-sets k here y) (λ i l. written_in i (omega (arith, all, room)) (omega (arith, all, l)))

    -- a held one reads as what is stored, out of the old pad
    pub relay-held : bit g.held f ≡ true → length k ≤ 512 → {q old u v : List ℕ} → q ≡ put_mid here n k y → old ≡ pad_from g.lock f size at
        → u ≡ laid_beside here (here + n) old q → v ≡ laid_beside here (here + n) stored u → v ≡ relayed g f size at start o bytes stored k
    unfolding relayed
    relay-held held short {q} {old} {u} {v} eq eo eu ev =
        let w = part from n bytes in
        let same : q ≡ x = eq ∙ laid-back k w here n room ey in
        let lq : length q ≡ length k = rw same (length-sets k here y) in
        let lu : length u ≡ length k = length_beside here (here + n) old q eu ∙ lq in
        let lv : length v ≡ length k = length_beside here (here + n) stored u ev ∙ lu in
        let pad : (i : ℕ) → i < length k → get_or old i 0 ≡ get_or (pad_of g.lock f size) (at + i) 0 =
        λ i l. rw eo (pad-byte g.lock f size at i (omega (arith, l, short))) in
        let beside : (i : ℕ) → i < length k → (i < here) ⊎ (here + n ≤ i) → get_or q i 0 ≡ get_or k i 0 → get_or u i 0 ≡ bit_xor (get_or q i 0) (get_or old i 0)
        → get_or v i 0 ≡ bit_xor (get_or u i 0) (get_or stored i 0) → get_or v i 0 ≡ Byte i =
        λ i l h a b c.
        c ∙ rw (b, a, pad i l)
        (held-xor (get_or k i 0) (get_or (pad_of g.lock f size) (at + i) 0) (get_or stored i 0)
        ∙ ap (λ (z : ℕ). bit_xor z (get_or k i 0)) (sym (yes _ held refl) ∙ unwritten i l h)) in
        by_bytes (length k) Byte v lv (λ i l.
        let iq : i < length q = rw lq l in
        let iu : i < length u = rw lu l in
        zoned (get_or v i 0 ≡ Byte i) i here (here + n)
        (λ a. beside i l (inl a) (rw same (laid-before k w here n room ey i a)) (beside_before here (here + n) old q eu i iq a) (beside_before here (here + n) stored u ev i iu a))
        (λ a b. beside_in here (here + n) stored u ev i iu a b ∙ beside_in here (here + n) old q eu i iq a b ∙ rw same (written_in i a b))
        (λ c.
        let a : here ≤ i = omega (arith, c) in
        beside i l (inr c) (rw same (laid-behind k w here n room ey i c)) (beside_behind here (here + n) old q eu i iq a c) (beside_behind here (here + n) stored u ev i iu a c)))

-- the piece goes to its place
module _ (g : Nugget) (lock : Lock) (f size start at o : ℕ) (bytes piece : List ℕ) (short : length piece ≤ 512) where
  pub piece-laid : {k z w : List ℕ} → k ≡ pad_from lock f size at
      → z ≡ relayed g f size at (start + at) o bytes piece (mid_of 0 (length piece - 0) k)
      → w ≡ part 0 (length piece - 0) (z ++ post_of 0 (length piece - 0) k) → w ≡ relaid g lock f size start o bytes at piece
  unfolding relayed relaid
  piece-laid {k} {z} {w} ek ez ew =
      let n = length piece in
      let none : n - 0 ≡ n = omega arith in
      let mid = mid_of 0 (n - 0) k in
      let long : length k ≡ 512 = rw ek (length-pad_from lock f size at) in
      let lm : length mid ≡ n = rw none (length-take-le n k (rw long short)) in
      let lz : length z ≡ n = rw ez (length-tab (length mid) _) ∙ lm in
      let own : part 0 (n - 0) (z ++ post_of 0 (n - 0) k) ≡ z = rw none (take_at z _ n lz) in
      ew ∙ own ∙ ez ∙ rw lm
      (tab_ext n (λ i. bit_xor (over o bytes (start + at + i) (opened_byte g f size (at + i) (get_or piece i 0))) (get_or mid i 0)) (λ i. relaid_byte g lock f size start o bytes (at + i) (get_or piece i 0)) (λ i l.
      let place : start + at + i ≡ start + (at + i) = omega arith in
      let front : get_or mid i 0 ≡ get_or k i 0 = rw none (get_or-take n k i 0 l) in
      let byte : get_or mid i 0 ≡ get_or (pad_of lock f size) (at + i) 0 = front ∙ rw ek (pad-byte lock f size at i (omega (arith, l, short))) in
      rw (place, byte) refl))
