-- What a format leaves passes every test, and mounting it gives the drive that the format gave.
use mathlib.Core.Path.{◌≡◌, refl, sym, ◌∙◌, ap}
use mathlib.Core.Bool.{true, false}
use mathlib.Core.Logic.{◌⊎◌, inl, inr}
use mathlib.Core.List.{List}
use Prim.Native.Nat.{ℕ, zero, suc, ◌+◌, ◌-◌, ◌*◌, ◌^◌, ◌<◌, ◌≤◌}
use native.Mathlib.Omega.{arith}
use lib.Dec.{eqb}
use lib.ListN.{length, length-replicate}
use lib.Seq.{sets, length-sets}
use lib.Pow.{pow_pos}
use borrow.Author.Tests.{eqb-true, eqb-false, lt-ltb}
use Rattle.base.specs.Lists.{part, same}
use Rattle.base.proofs.PickLaws.{told, both-on}
use Rattle.base.proofs.PartLaws.{part-sets, part-sets-above, part-sets-below}
use Rattle.base.proofs.FoldLaws.{same_refl}
use Rattle.answers.specs.Answer as A
use Rattle.answers.specs.Numbers.{accepts}
use Rattle.layout.specs.declared.Shape.{Shape}
use Rattle.layout.specs.Shape.{in_limits, leaves, width_of}
use Rattle.layout.specs.Parts.{record_at, tag_at, node_at, length_of}
use Rattle.drive.proofs.OpeningLaws.{opening-by}
use Rattle.layout.proofs.Places.{record_inside, records-above, parts_inside}
use Rattle.records.specs.Record.{against, record_bytes, record_in, Codes}
use Rattle.records.proofs.BitLaws.{lies_self}
use Rattle.records.proofs.RecordLaws.{read-stored, record_told}
use Rattle.records.proofs.RuleLaws.{formed-by}
use Rattle.nodes.specs.Nodes.{node_in}
use Rattle.nodes.specs.Alike.{Alike}
use Rattle.nodes.proofs.Bounds.{node-above}
use Rattle.nodes.proofs.MadeLaws.{made_alike}
use Rattle.nodes.proofs.StoreLaws.{outside-alike}
use Rattle.tree.specs.Path.{formed}
use Rattle.tree.specs.Whole.{whole_of}
use Rattle.tree.specs.Good.{AllGood}
use Rattle.tree.proofs.BuildLaws.{built-outside, built-good}
use Rattle.tree.proofs.WholeLaws.{good-whole}
use Rattle.drive.specs.Drive.{zeros, counter_top}
use Rattle.drive.specs.Head.{head_of}
use Rattle.drive.specs.Opening.{in_form, head_stands, opening_of}
use Rattle.opening.specs.Format.{format_answer, fresh_record, fresh_from, bare, planted, fresh_drive, fresh_volume, format_volume}
use Rattle.opening.specs.Mount.{whole_in, mount_done}
use Rattle.opening.proofs.FormatLaws.{format_lent, length-bare, length-planted}
use Rattle.opening.proofs.Reopens.{Handed, length-head, mounts-back}
use Rattle.layout.specs.Shaped.{Shaped}

-- records laid from nugget m on leave those before
fresh-before : (s : Shape) (k m n : ℕ) (v : List ℕ) → n < m → part (record_at s n) (width_of s) (fresh_from s k m v) ≡ part (record_at s n) (width_of s) v
unfolding fresh_from
fresh-before s zero m n v h = refl
fresh-before s (suc k) m n v h =
    fresh-before s k (suc m) n (sets v (record_at s m) (record_bytes s fresh_record)) (omega arith)
    ∙ part-sets-below (record_at s n) (width_of s) v (record_at s m) (record_bytes s fresh_record) (records-above s n m h)

fresh_codes : (s : Shape) → Codes s fresh_record
fresh_codes s = record { keycount_width = omega arith; spent_width = omega arith; held_width = omega arith; epoch_width = omega arith; one_mask = λ one. refl }

-- and each of theirs is the fresh one
fresh_at : (s : Shape) (k m n : ℕ) (v : List ℕ) → m ≤ n → n < m + k → record_at s n + width_of s ≤ length v → record_in s (record_at s n) (fresh_from s k m v) ≡ fresh_record
unfolding fresh_from
fresh_at s zero m n v a b h = absurd (omega arith)
fresh_at s (suc k) m n v a b h = go (told (eqb n m)) (λ ne. fresh_at s k (suc m) n next (omega (arith, ne)) (omega arith) (rw (length-sets v (record_at s m) (record_bytes s fresh_record)) h))
  where
    next : List ℕ
    next = sets v (record_at s m) (record_bytes s fresh_record)

    go : (eqb n m ≡ true) ⊎ (eqb n m ≡ false) → ((n ≡ m → ⊥) → record_in s (record_at s n) (fresh_from s k (suc m) (sets v (record_at s m) (record_bytes s fresh_record))) ≡ fresh_record)
        → record_in s (record_at s n) (fresh_from s k (suc m) (sets v (record_at s m) (record_bytes s fresh_record))) ≡ fresh_record
    go (inl e) again =
        let q : n ≡ m = eqb-true n m e in
        let w = sets v (record_at s n) (record_bytes s fresh_record) in
        rw (← q) (record_told s (record_at s n) (fresh_from s k (suc n) w) w (fresh-before s k (suc n) n w (omega arith)) ∙ read-stored s v (record_at s n) fresh_record (fresh_codes s) h)
    go (inr e) again = again (eqb-false n m e)

module _ (s : Shape) (limited : in_limits s ≡ true) where
  bare_lent : Shaped s (bare s)
  bare_lent = record { limited = limited; size = length-bare s }

  planted-good : AllGood s (planted s)
  unfolding planted
  planted-good = built-good s (bare s) bare_lent

  pub planted-fresh : (n : ℕ) → n < s.n → record_in s (record_at s n) (planted s) ≡ fresh_record
  unfolding planted bare
  planted-fresh n h =
      sym (record_told s (record_at s n) (bare s) (planted s) (outside-alike n (built-outside s (bare s)) h).records)
      ∙ fresh_at s s.n 0 n (zeros (length_of s)) (omega arith) (omega arith) (rw (length-replicate {A = ℕ} (length_of s) 0) (omega (arith, record_inside s n h, parts_inside s)))

  -- with any 104 bytes of head laid over it
  module _ (head : List ℕ) (long : length head ≡ 104) where
    above : (at n : ℕ) → 104 ≤ at → part at n (sets (planted s) 0 head) ≡ part at n (planted s)
    above at n h = part-sets-above at n (planted s) 0 head (omega (arith, long))

    pub headed-node : (i : ℕ) → 1 ≤ i → node_in s (sets (planted s) 0 head) i ≡ node_in s (planted s) i
    headed-node i h = above (node_at s i) 32 (omega (arith, node-above s i h))

    headed-alike : (n : ℕ) → Alike s (planted s) (sets (planted s) 0 head) n
    headed-alike n = record { records = sym (above (record_at s n) (width_of s) (omega arith)); tags = sym (above (tag_at s n 0) (16 * s.p) (omega arith)) }

    headed-good : AllGood s (sets (planted s) 0 head)
    headed-good i a b =
        headed-node i a ∙ planted-good i a b
        ∙ made_alike s (planted s) (sets (planted s) 0 head) i (λ h. (sym (headed-node (2 * i) (omega arith)), sym (headed-node (2 * i + 1) (omega arith))))
        (λ h k. headed-alike (i - leaves s.n))

    headed-formed : (counter n : ℕ) → n < s.n → formed s (against 1 false counter) (sets (planted s) 0 head) n ≡ true
    headed-formed counter n h =
        let e = sym (record_told s (record_at s n) (planted s) (sets (planted s) 0 head) (headed-alike n).records) ∙ planted-fresh n h in
        rw e (formed-by s.p (against 1 false counter) fresh_record (lt-ltb 0 (2 ^ s.p) (pow_pos s.p)) (lies_self 0) refl (omega arith))

    headed_lent : Shaped s (sets (planted s) 0 head)
    headed_lent = record { limited = limited; size = length-sets (planted s) 0 head ∙ length-planted s }

    pub headed-whole : (counter : ℕ) → whole_of s (against 1 false counter) (sets (planted s) 0 head) ≡ A.Accepted
    headed-whole counter = good-whole s (against 1 false counter) (sets (planted s) 0 head) headed_lent headed-good (headed-formed counter)

module _ (s : Shape) (salt secret : List ℕ) (outside : ℕ) (salted : length salt ≡ 16) (limited : in_limits s ≡ true) where
  head_long : length (head_of (fresh_drive s salt secret outside)) ≡ 104
  unfolding fresh_drive
  head_long = length-head (fresh_drive s salt secret outside) salted

  pub fresh_opens : opening_of (fresh_drive s salt secret outside) (fresh_volume s salt secret outside) ≡ A.Accepted
  unfolding in_form head_stands fresh_drive fresh_volume
  fresh_opens =
      let d = fresh_drive s salt secret outside in
      let v = planted s in
      let size : length (sets v 0 (head_of d)) ≡ length_of s = length-sets v 0 (head_of d) ∙ length-planted s in
      let first : part 0 104 (sets v 0 (head_of d)) ≡ head_of d = part-sets v 0 104 (head_of d) head_long (omega (arith, length-planted s, parts_inside s)) in
      let node = headed-node s limited (head_of d) head_long 1 (omega arith) in
      opening-by d (sets v 0 (head_of d)) (both-on limited refl) size
      (both-on (ap (λ (l : List ℕ). same l (head_of d)) first ∙ same_refl (head_of d)) (ap (λ (l : List ℕ). same l d.node) node ∙ same_refl d.node))

  pub fresh-whole : whole_in (fresh_drive s salt secret outside) (fresh_volume s salt secret outside) ≡ A.Accepted
  unfolding fresh_drive fresh_volume
  fresh-whole = headed-whole s limited (head_of (fresh_drive s salt secret outside)) head_long (outside + 1)

  fresh_handed : (old : List ℕ) → outside < counter_top → Handed (fresh_drive s salt secret outside) old
  unfolding fresh_drive
  fresh_handed old h = record { epoch_lt = omega arith; counter_lt = omega (arith, h); salt_long_lem = salted; kept = refl }

-- "the counter is the outside value plus 1": mounting what an accepted format left, with its secret and that counter, whatever old secret is brought
pub format-mounts : (s : Shape) (salt secret old : List ℕ) (outside : ℕ) (v : List ℕ) → length salt ≡ 16 → outside < 2 ^ 64 → format_answer s outside v ≡ A.Accepted
    → mount_done (format_volume s salt secret outside v) secret old (outside + 1) ≡ record { answer = A.Accepted; drive = fresh_drive s salt secret outside }
unfolding format_volume fresh_drive
format-mounts s salt secret old outside v salted low e =
    let (lent, top) = format_lent s outside v (ap accepts e) in
    let x = fresh_handed s salt secret outside salted lent.limited old (omega (arith, low, top)) in
    rw e (mounts-back (fresh_drive s salt secret outside) (fresh_volume s salt secret outside) old x (fresh_opens s salt secret outside salted lent.limited) (fresh-whole s salt secret outside salted lent.limited))
