-- What a format leaves: its loop's steps, its lengths, and both halves of its promise from one answer.
use mathlib.Core.Path.{◌≡◌, refl, ◌∙◌}
use mathlib.Core.Bool.{true, false}
use mathlib.Core.List.{List}
use Prim.Native.Nat.{ℕ, zero, suc, ◌+◌, ◌-◌, ◌<◌, ◌≤◌}
use native.Mathlib.Omega.{arith}
use lib.Dec.{eqb}
use lib.ListN.{length, length-replicate}
use lib.Seq.{sets, length-sets}
use borrow.Author.Tests.{eqb-true, eqb-false}
use Rattle.base.specs.Pick.{pick}
use Rattle.answers.specs.Answer.{Answer}
use Rattle.answers.specs.Answer as A
use Rattle.answers.specs.Numbers.{accepts}
use Rattle.layout.specs.declared.Shape.{Shape}
use Rattle.layout.specs.Shape.{in_limits}
use Rattle.layout.specs.Parts.{length_of, record_at}
use Rattle.records.specs.Record.{record_bytes}
use Rattle.tree.proofs.BuildLaws.{built-outside}
use Rattle.drive.specs.declared.Drive.{Drive}
use Rattle.drive.specs.declared.Done.{Done}
use Rattle.drive.specs.Drive.{zeros, blank_drive, counter_top}
use Rattle.drive.specs.Head.{head_of}
use Rattle.opening.specs.Format.{format_answer, fresh_record, fresh_from, bare, planted, fresh_drive, fresh_volume, format_done, format_volume}
use Rattle.answers.proofs.StageLaws.{passed, spared}
use Rattle.layout.specs.Shaped.{Shaped}

-- the loop that lays the records: its start, its turn and its end
pub fresh-none : (s : Shape) (v : List ℕ) (count : ℕ) → fresh_from s (count - 0) 0 v ≡ fresh_from s count 0 v
fresh-none s v count = let e : count - 0 ≡ count = omega arith in rw e

pub fresh_on : (s : Shape) (v : List ℕ) (n count : ℕ) → n < count
    → fresh_from s (count - (n + 1)) (n + 1) (sets v (record_at s n) (record_bytes s fresh_record)) ≡ fresh_from s (count - n) n v
unfolding fresh_from
fresh_on s v n count h =
    let e : count - n ≡ suc (count - (n + 1)) = omega arith in
    let f : n + 1 ≡ suc n = omega arith in
    rw (e, f)

pub fresh_end : (s : Shape) (v : List ℕ) (n count : ℕ) → count ≤ n → fresh_from s (count - n) n v ≡ v
unfolding fresh_from
fresh_end s v n count h = let e : count - n ≡ 0 = omega arith in rw e

-- what the tests of an accepted format tell
pub format_lent : (s : Shape) (outside : ℕ) (v : List ℕ) → accepts (format_answer s outside v) ≡ true → Shaped s v × (outside ≡ counter_top → ⊥)
unfolding format_answer
format_lent s outside v e =
    let first = passed (in_limits s) (pick (eqb (length v) (length_of s)) (pick (eqb outside counter_top) A.CounterTop A.Accepted) A.Length) A.Limits refl e in
    let second = passed (eqb (length v) (length_of s)) (pick (eqb outside counter_top) A.CounterTop A.Accepted) A.Length refl first.1 in
    let third : eqb outside counter_top ≡ false = (spared (eqb outside counter_top) A.CounterTop A.Accepted refl second.1).0 in
    (record { limited = first.0; size = eqb-true (length v) (length_of s) second.0 }, eqb-false outside counter_top third)

-- both halves of the promise, from the answer
module _ (s : Shape) (salt secret : List ℕ) (outside : ℕ) (v : List ℕ) {a : Answer} (e : format_answer s outside v ≡ a) where
  pub format-on : {d : Drive} {w : List ℕ} → accepts a ≡ true → d ≡ fresh_drive s salt secret outside → w ≡ sets (planted s) 0 (head_of d)
      → (◌≡◌ {A = Done} (record { answer = a; drive = d }) (format_done s salt secret outside v)) × (w ≡ format_volume s salt secret outside v)
  unfolding format_done format_volume fresh_volume
  format-on t p q = (rw (e, t, p), q ∙ rw (e, t, p))

  pub format_off : {d : Drive} → accepts a ≡ false → d ≡ blank_drive
      → (◌≡◌ {A = Done} (record { answer = a; drive = d }) (format_done s salt secret outside v)) × (v ≡ format_volume s salt secret outside v)
  unfolding format_done format_volume
  format_off t p = (rw (e, t, p), rw (e, t))

-- lengths
pub length-fresh : (s : Shape) (k n : ℕ) (v : List ℕ) → length (fresh_from s k n v) ≡ length v
unfolding fresh_from
length-fresh s zero n v = refl
length-fresh s (suc k) n v = length-fresh s k (suc n) (sets v (record_at s n) (record_bytes s fresh_record)) ∙ length-sets v (record_at s n) (record_bytes s fresh_record)

pub length-bare : (s : Shape) → length (bare s) ≡ length_of s
unfolding bare
length-bare s = length-fresh s s.n 0 (zeros (length_of s)) ∙ length-replicate (length_of s) 0

pub length-planted : (s : Shape) → length (planted s) ≡ length_of s
unfolding planted
length-planted s = (built-outside s (bare s)).long ∙ length-bare s
