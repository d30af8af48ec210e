-- Any well-formed records are those of a drive's volume that passes every test of a report.
use mathlib.Core.Path.{◌≡◌, refl, sym, ap, ◌∙◌}
use mathlib.Core.Bool.{true, false}
use mathlib.Core.Logic.{◌⊎◌, inl, inr}
use mathlib.Core.List.{List}
use Prim.Native.Nat.{ℕ, zero, suc, ◌+◌, ◌-◌, ◌*◌, ◌<◌, ◌≤◌}
use native.Mathlib.Omega.{arith}
use lib.Dec.{eqb}
use lib.ListN.{length, length-replicate}
use lib.Seq.{sets, length-sets}
use borrow.Author.Tests.{eqb-true, eqb-false, le-leb}
use Rattle.base.specs.Lists.{part, same}
use Rattle.base.proofs.PickLaws.{yes, told, both-on}
use Rattle.base.proofs.PartLaws.{part-sets, part-sets-above, part-sets-below}
use Rattle.base.proofs.FoldLaws.{same_refl}
use Rattle.answers.specs.Answer as A
use Rattle.answers.specs.Numbers.{accepts}
use Rattle.layout.specs.declared.Shape.{Shape}
use Rattle.layout.specs.Shape.{sized, known_version, known_cipher, known, in_limits, leaves, width_of}
use Rattle.layout.specs.Parts.{record_at, tag_at, node_at, length_of}
use Rattle.layout.specs.Shaped.{Shaped}
use Rattle.layout.proofs.Places.{record_room, records-above, parts_inside}
use Rattle.records.specs.declared.Record.{Record}
use Rattle.records.specs.Record.{record_bytes, record_of, against, well_formed, Codes}
use Rattle.records.proofs.RecordLaws.{read-stored, record_told}
use Rattle.nodes.specs.Nodes.{node_in}
use Rattle.nodes.specs.Alike.{Alike}
use Rattle.nodes.proofs.Bounds.{node-above}
use Rattle.nodes.proofs.MadeLaws.{made_alike}
use Rattle.nodes.proofs.StoreLaws.{outside-alike, outside_lent}
use Rattle.tree.specs.Path.{formed}
use Rattle.tree.specs.Good.{AllGood}
use Rattle.tree.specs.Renewed.{built}
use Rattle.tree.proofs.BuildLaws.{built-outside, built-good}
use Rattle.tree.proofs.WholeLaws.{good-whole}
use Rattle.drive.specs.Drive.{zeros}
use Rattle.drive.specs.Head.{head_of}
use Rattle.drive.specs.Opening.{in_form, head_stands, opening_of}
use Rattle.drive.proofs.OpeningLaws.{opening-by}
use Rattle.opening.proofs.Reopens.{length-head}
use Rattle.reports.specs.Report.{report_answer}
use Rattle.milestones.specs.Spread.{wide_shape, laid_to, treed, drive_over, volume_over}

-- records stored leave the length, and are read back
length-laid : (s : Shape) (g : ℕ → Record) (k : ℕ) (v : List ℕ) → length (laid_to s g k v) ≡ length v
unfolding laid_to
length-laid s g zero v = refl
length-laid s g (suc k) v = length-sets (laid_to s g k v) (record_at s k) (record_bytes s (g k)) ∙ length-laid s g k v

laid_record : (s : Shape) (g : ℕ → Record) (k : ℕ) (v : List ℕ) (j : ℕ) → ((m : ℕ) → Codes s (g m)) → Shaped s v → k ≤ s.n → j < k → record_of s (laid_to s g k v) j ≡ g j
unfolding laid_to
laid_record s g zero v j w l h i = absurd (omega arith)
laid_record s g (suc k) v j w l h i = go (told (eqb j k)) (λ b. laid_record s g k v j w l (omega arith) b)
  where
    go : (eqb j k ≡ true) ⊎ (eqb j k ≡ false) → (j < k → record_of s (laid_to s g k v) j ≡ g j)
        → record_of s (sets (laid_to s g k v) (record_at s k) (record_bytes s (g k))) j ≡ g j
    go (inl e) again =
        let q : j ≡ k = eqb-true j k e in
        let room : record_at s k + width_of s ≤ length (laid_to s g k v) = rw (length-laid s g k v) (record_room k l (omega arith)) in
        rw q (read-stored s (laid_to s g k v) (record_at s k) (g k) (w k) room)
    go (inr e) again =
        let b : j < k = omega (arith, eqb-false j k e) in
        record_told s (record_at s j) (sets (laid_to s g k v) (record_at s k) (record_bytes s (g k))) (laid_to s g k v) (part-sets-below (record_at s j) (width_of s) (laid_to s g k v) (record_at s k) (record_bytes s (g k)) (records-above s j k b)) ∙ again b

module _ (n : ℕ) (some : 1 ≤ n) (few : n ≤ 16384) (g : ℕ → Record) (codes : (k : ℕ) → Codes (wide_shape n) (g k)) (good : (k : ℕ) → well_formed 64 (against 2 true 0) (g k) ≡ true) where
  abbrev s : Shape
  s = wide_shape n

  abbrev laid : List ℕ
  laid = laid_to s g n (zeros (length_of s))

  limited : in_limits (wide_shape n) ≡ true
  unfolding in_limits sized known known_version known_cipher
  limited = both-on (both-on (le-leb 1 n some) (both-on (le-leb n 16384 few) refl)) refl

  zeros_lent : Shaped (wide_shape n) (zeros (length_of (wide_shape n)))
  zeros_lent = record { limited = limited; size = length-replicate {A = ℕ} (length_of s) 0 }

  laid_lent : Shaped (wide_shape n) (laid_to (wide_shape n) g n (zeros (length_of (wide_shape n))))
  laid_lent = record { limited = limited; size = length-laid s g n (zeros (length_of s)) ∙ zeros_lent.size }

  treed_lent : Shaped (wide_shape n) (treed n g)
  unfolding treed
  treed_lent = outside_lent (built-outside s laid) laid_lent

  treed-good : AllGood (wide_shape n) (treed n g)
  unfolding treed
  treed-good = built-good s laid laid_lent

  treed_record : (k : ℕ) → k < n → record_of (wide_shape n) (treed n g) k ≡ g k
  unfolding treed
  treed_record k h =
      sym (record_told s (record_at s k) laid (built s laid) (outside-alike k (built-outside s laid) h).records)
      ∙ laid_record s g n (zeros (length_of s)) k codes zeros_lent (omega arith) h

  -- with the head in front
  head_long : length (head_of (drive_over n g)) ≡ 104
  unfolding drive_over
  head_long = length-head (drive_over n g) refl

  above : (at m : ℕ) → 104 ≤ at → part at m (volume_over n g) ≡ part at m (treed n g)
  unfolding volume_over
  above at m h = part-sets-above at m (treed n g) 0 (head_of (drive_over n g)) (omega (arith, head_long))

  node_over : (i : ℕ) → 1 ≤ i → node_in (wide_shape n) (volume_over n g) i ≡ node_in (wide_shape n) (treed n g) i
  node_over i h = above (node_at s i) 32 (omega (arith, node-above s i h))

  alike-over : (k : ℕ) → Alike (wide_shape n) (treed n g) (volume_over n g) k
  alike-over k = record { records = sym (above (record_at s k) (width_of s) (omega arith)); tags = sym (above (tag_at s k 0) (16 * s.p) (omega arith)) }

  good-over : AllGood (wide_shape n) (volume_over n g)
  good-over i a b =
      node_over i a ∙ treed-good i a b
      ∙ made_alike s (treed n g) (volume_over n g) i (λ h. (sym (node_over (2 * i) (omega arith)), sym (node_over (2 * i + 1) (omega arith)))) (λ h k. alike-over (i - leaves s.n))

  lent_over : Shaped (wide_shape n) (volume_over n g)
  unfolding volume_over
  lent_over = record { limited = limited; size = length-sets (treed n g) 0 (head_of (drive_over n g)) ∙ treed_lent.size }

  -- its records are those
  pub over_record : (k : ℕ) → k < n → record_of (wide_shape n) (volume_over n g) k ≡ g k
  over_record k h = sym (record_told s (record_at s k) (treed n g) (volume_over n g) (alike-over k).records) ∙ treed_record k h

  formed-over : (k : ℕ) → k < n → formed (wide_shape n) (against 2 true 0) (volume_over n g) k ≡ true
  formed-over k h = rw (over_record k h) (good k)

  opens_over : opening_of (drive_over n g) (volume_over n g) ≡ A.Accepted
  unfolding in_form head_stands drive_over volume_over
  opens_over =
      let d = drive_over n g in
      let first : part 0 104 (sets (treed n g) 0 (head_of d)) ≡ head_of d = part-sets (treed n g) 0 104 (head_of d) head_long (omega (arith, treed_lent.size, parts_inside s)) in
      let node = node_over 1 (omega arith) in
      opening-by d (sets (treed n g) 0 (head_of d)) (both-on limited refl) lent_over.size
      (both-on (ap (λ (l : List ℕ). same l (head_of d)) first ∙ same_refl (head_of d)) (ap (λ (l : List ℕ). same l d.node) node ∙ same_refl d.node))

  -- and its report is accepted
  pub over_reports : report_answer (drive_over n g) (volume_over n g) ≡ A.Accepted
  unfolding report_answer drive_over
  over_reports = yes _ (ap accepts opens_over) (good-whole s (against 2 true 0) (volume_over n g) lent_over good-over formed-over)
