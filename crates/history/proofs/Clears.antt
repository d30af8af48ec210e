-- What a format clears, and what no call touches.
use mathlib.Core.Path.{◌≡◌, refl, ap, ◌∙◌, subst}
use mathlib.Core.Bool.{false}
use mathlib.Core.List.{List, ◌∷◌}
use Prim.Native.Nat.{ℕ, zero, suc, ◌+◌, ◌-◌, ◌<◌, ◌≤◌}
use native.Mathlib.Omega.{arith}
use lib.ListN.{length, take}
use lib.Seq.{sets}
use Rattle.base.specs.Lists.{part}
use Rattle.base.proofs.PartLaws.{part-sets-above, drop-replicate}
use Rattle.layout.specs.declared.Shape.{Shape}
use Rattle.layout.specs.Parts.{length_of, tags_at, record_at, tag_at, flake_at}
use Rattle.layout.proofs.Places.{record_inside, tag-inside, flake-inside, parts_inside}
use Rattle.records.specs.Journal.{bit}
use Rattle.records.specs.Record.{record_bytes, record_of}
use Rattle.records.proofs.RecordLaws.{length_record}
use Rattle.tree.proofs.BuildLaws.{built-outside}
use Rattle.drive.specs.Drive.{zeros}
use Rattle.opening.specs.Format.{fresh_record, fresh_from, bare, planted, fresh_drive, fresh_volume, format_volume}
use Rattle.opening.proofs.Reopens.{length-head}
use Rattle.changes.specs.Change.{settled}
use Rattle.changes.proofs.PutLaws.{Same, same_trans}
use Rattle.changes.proofs.SettleLaws.{settled_same}
use Rattle.changes.proofs.ViewLaws.{outside-same}
use Rattle.history.specs.Step.{step}
use Rattle.history.specs.History.{Start, begun, history}
use Rattle.history.specs.Pads.{FormatClears, AbsentStays}
use Rattle.history.proofs.Steps.{begun_record, step_keeps, sound}
use Rattle.history.proofs.Demands.{begun_base, shape-kept}

-- a part of zeros
take-zeros : (j k : ℕ) → j ≤ k → take j (zeros k) ≡ zeros j
take-zeros zero k h = refl
take-zeros (suc j) zero h = absurd (omega arith)
take-zeros (suc j) (suc k) h = ap (λ (l : List ℕ). 0 ∷ l) (take-zeros j k (omega arith))

part-zeros : (at j k : ℕ) → at + j ≤ k → part at j (zeros k) ≡ zeros j
part-zeros at j k h = ap (λ (l : List ℕ). take j l) (drop-replicate at k 0) ∙ take-zeros j (k - at) (omega arith)

-- fresh records leave what stands behind them
fresh-above : (s : Shape) (k m at j : ℕ) (v : List ℕ) → m + k ≤ s.n → tags_at s ≤ at → part at j (fresh_from s k m v) ≡ part at j v
unfolding fresh_from
fresh-above s zero m at j v h l = refl
fresh-above s (suc k) m at j v h l =
    fresh-above s k (suc m) at j (sets v (record_at s m) (record_bytes s fresh_record)) (omega arith) l
    ∙ part-sets-above at j v (record_at s m) (record_bytes s fresh_record) (omega (arith, l, record_inside s m (omega arith), length_record s fresh_record))

bare-zeros : (s : Shape) (at j : ℕ) → tags_at s ≤ at → at + j ≤ length_of s → part at j (bare s) ≡ zeros j
unfolding bare
bare-zeros s at j l h = fresh-above s s.n 0 at j (zeros (length_of s)) (omega arith) l ∙ part-zeros at j (length_of s) h

-- a flake and its tag in a fresh volume are those of the bare one
fresh-same : (s : Shape) (salt secret : List ℕ) (outside n f : ℕ) → length salt ≡ 16 → n < s.n → f < s.p → Same s n f (bare s) (fresh_volume s salt secret outside)
unfolding fresh_volume planted settled fresh_drive
fresh-same s salt secret outside n f salted a b =
    same_trans (outside-same n f (built-outside s (bare s)) a b)
    (settled_same s (fresh_drive s salt secret outside) (planted s) (length-head (fresh_drive s salt secret outside) salted) n f)

begun-same : (x : Start) (n f : ℕ) → n < x.shape.n → f < x.shape.p → Same x.shape n f (bare x.shape) (begun x).vol
unfolding begun format_volume
begun-same x n f a b = rw x.accepted (fresh-same x.shape x.salt x.secret x.outside n f x.salted a b)

pub format-clears : FormatClears
format-clears x n f a b =
    let s = x.shape in
    let same = begun-same x n f a b in
    let shaped = ap (λ (b : Shape × List ℕ). b.0) (begun_base x) in
    let inside = parts_inside s in (
      subst (λ (z : Shape). record_of z (begun x).vol n ≡ fresh_record) shaped (begun_record x n a),
      same.stored ∙ bare-zeros s (flake_at s n f) s.f (omega (arith, inside)) (flake-inside s n f a b),
      same.tag ∙ bare-zeros s (tag_at s n f) 16 (omega arith) (omega (arith, tag-inside s n f a b, inside)),
    )

pub absent_stays : AbsentStays
absent_stays x calls c n f a b gone =
    let w = history x calls in
    let kept = (shape-kept x calls).0 in
    let rests = subst (λ (s : Shape). n < s.n → f < s.p → bit (record_of s (step w c).vol n).held f ≡ false → Same s n f w.vol (step w c).vol) kept
    ((step_keeps w c (sound x calls)).rests n f) a b gone in
    (rests.stored, rests.tag)
