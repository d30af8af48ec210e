-- The auditor's question: "Was any stretch of keystream ever laid over two different contents?" Once over any lawful cipher: a pad is its
-- stretches, one block for each input of the block function, and an input belongs to one pad of a nugget only.
use mathlib.Core.Path.{◌≡◌, refl, ap, sym, ◌∙◌}
use mathlib.Core.List.{List, [], ◌∷◌, ◌++◌}
use Prim.Native.Nat.{ℕ, suc, ◌+◌, ◌-◌, ◌*◌, ◌/◌, ◌%◌, ◌^◌, ◌<◌, ◌≤◌}
use native.Mathlib.Nat.{mul_assoc, mul_comm, mul-div_cancel, mul-add-div, mul-add-mod_self_left, mod-eq_of_lt, div-eq_of_lt, div-add-mod', div-le_self, add-zero}
use native.Mathlib.Omega.{arith}
use lib.Arith.{digits_lt, digits_div, digits_mod}
use lib.ListN.{length, get_or}
use lib.Seq.{ext_get_or}
use Rattle.base.specs.Lists.{tab, part, fold}
use Rattle.base.proofs.TabLaws.{length-tab, get_or-tab, tab_ext, part-tab}
use Rattle.base.proofs.FoldLaws.{fold-append}
use Rattle.keys.specs.declared.Lock.{Lock}
use Rattle.keys.specs.Ciphers.{Cipher, Lawful}
use Rattle.keys.specs.Pads.{cipher_for, first_block, pad_of, Size, Stretch, Lies, stretch_in, input_of}
use Rattle.keys.proofs.CipherLaws.{lawful, length-blocks, byte_in_lem}
use Rattle.keys.proofs.PadLaws.{length-pad, pad-at}

module _ (c : Cipher) (law : Lawful c) (size : ℕ) (ok : Size size) where
  -- a flake is whole blocks
  whole-blocks : size ≡ size / c.unit * c.unit
  whole-blocks = sym (div-add-mod' size c.unit) ∙ ap (λ (z : ℕ). size / c.unit * c.unit + z) (law.whole size ok.whole) ∙ add-zero (size / c.unit * c.unit)

  -- flake after flake, each has as many blocks as it is long
  pub first_block_lem : (f : ℕ) → first_block c.unit size f ≡ f * (size / c.unit)
  unfolding first_block
  first_block_lem f =
      let u = c.unit in
      ap (λ (z : ℕ). f * z / u) whole-blocks ∙ ap (λ (z : ℕ). z / u) (sym (mul_assoc f (size / u) u)) ∙ mul-div_cancel (f * (size / u)) law.some

  -- every block of a nugget is far below 2^32, so no counter rolls over
  pub block-low : (f j : ℕ) → f < 64 → j < size / c.unit → first_block c.unit size f + j < 2 ^ 20
  block-low f j h l = rw (first_block_lem f) (omega (arith, digits_lt h l, div-le_self size c.unit, ok.most))

  -- the blocks of two flakes don't meet
  pub blocks_apart : (f g i j : ℕ) → i < size / c.unit → j < size / c.unit → first_block c.unit size f + i ≡ first_block c.unit size g + j → (f ≡ g) × (i ≡ j)
  blocks_apart f g i j h l e =
      let s = size / c.unit in
      let q : f * s + i ≡ g * s + j = rw (first_block_lem f, first_block_lem g) at e in
      (sym (digits_div f h) ∙ ap (λ (x : ℕ). x / s) q ∙ digits_div g l, sym (digits_mod f h) ∙ ap (λ (x : ℕ). x % s) q ∙ digits_mod g l)

  -- No stretch of keystream comes twice in a nugget's pads: an input belongs to one keycount, one flake and one place there.
  pub no_stretch_twice : (s t : Stretch) → Lies c size s → Lies c size t → input_of c size s ≡ input_of c size t → s ≡ t
  no_stretch_twice s t h l e =
      let m = first_block c.unit size s.flake + s.place in
      let n = first_block c.unit size t.flake + t.place in
      let told = law.once s.keycount t.keycount m n h.count l.count
      (omega (arith, block-low s.flake s.place h.few h.inside)) (omega (arith, block-low t.flake t.place l.few l.inside)) e in
      let places = blocks_apart s.flake t.flake s.place t.place h.inside l.inside told.1 in
      λ i. record { keycount = told.0 i; flake = places.0 i; place = places.1 i }

  -- so two different pads of a nugget have no input in common
  pub pads_apart : (s t : Stretch) → Lies c size s → Lies c size t → ((s.keycount ≡ t.keycount) × (s.flake ≡ t.flake) → ⊥)
      → input_of c size s ≡ input_of c size t → ⊥
  pads_apart s t h l other e =
      let same = no_stretch_twice s t h l e in
      other (ap (λ (x : Stretch). x.keycount) same, ap (λ (x : Stretch). x.flake) same)

module _ (size : ℕ) (ok : Size size) (lock : Lock) (f : ℕ) where
  -- what the input at place j gives
  abbrev stretch_at : ℕ → List ℕ
  stretch_at j = (cipher_for lock).give lock.key (input_of (cipher_for lock) size (stretch_in lock f j))

  long_stretch : (j : ℕ) → length (stretch_at j) ≡ (cipher_for lock).unit
  long_stretch j = (lawful lock.cipher).long lock.key lock.keycount (first_block (cipher_for lock).unit size f + j)

  -- a pad is what the inputs of its stretches give, one after the other
  pub pad-stretches : pad_of lock f size ≡ fold ◌++◌ [] (tab (size / (cipher_for lock).unit) stretch_at)
  unfolding tab fold
  pad-stretches =
      let c = cipher_for lock in
      let stream : ℕ → List ℕ = λ n. fold ◌++◌ [] (tab n stretch_at) in
      let more : (n : ℕ) → stream (suc n) ≡ stream n ++ stretch_at n = λ n. fold-append {S = List ℕ} ◌++◌ [] (tab n stretch_at) (stretch_at n ∷ []) in
      let all = size / c.unit in
      let long : length (stream all) ≡ size = length-blocks c.unit stretch_at stream long_stretch refl more all ∙ sym (whole-blocks c (lawful lock.cipher) size ok) in
      ext_get_or 0 (pad_of lock f size) (stream all) (length-pad lock f size ∙ sym long) (λ i q.
      let low : i < size = rw (length-pad lock f size) at q in
      pad-at lock f size i low
      ∙ sym (byte_in_lem c.unit stretch_at stream long_stretch refl more all i (rw (← whole-blocks c (lawful lock.cipher) size ok) low)))

  -- a stretch is what its input gives
  pub stretch_is : (j : ℕ) → j < size / (cipher_for lock).unit → part ((cipher_for lock).unit * j) (cipher_for lock).unit (pad_of lock f size) ≡ stretch_at j
  stretch_is j inside =
      let c = cipher_for lock in
      let law = lawful lock.cipher in
      let u = c.unit in
      let last : u - 1 < u = omega (arith, law.some) in
      let room : u * j + u ≤ size = rw (whole-blocks c law size ok) (omega (arith, digits_lt inside last, mul_comm u j, law.some)) in
      part-tab (u * j) u (pad_of lock f size) (rw (length-pad lock f size) room)
      ∙ tab_ext u _ (λ i. get_or (stretch_at j) i 0) (λ i h.
      let at : (u * j + i) / u ≡ j = mul-add-div law.some j i ∙ rw (div-eq_of_lt h) (add-zero j) in
      let byte : (u * j + i) % u ≡ i = mul-add-mod_self_left u j i ∙ mod-eq_of_lt h in
      pad-at lock f size (u * j + i) (omega (arith, room, h)) ∙ rw (at, byte))
      ∙ sym (ext_get_or 0 (stretch_at j) (tab u (λ i. get_or (stretch_at j) i 0)) (long_stretch j ∙ sym (length-tab u (λ i. get_or (stretch_at j) i 0))) (λ i h.
      sym (get_or-tab u (λ n. get_or (stretch_at j) n 0) i 0 (rw (long_stretch j) at h))))
