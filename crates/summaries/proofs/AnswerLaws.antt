-- What an accepted call says of drive, volume and buffer, and each call's tests met by the code.
use Rattle.std.proofs.Common.{◌≡◌, ℕ, ◌<◌, true, false, eqb, ltb, List, length, sym, refl, ltb-true, eqb-true}
use Rattle.base.proofs.PickLaws.{yes, no}
use Rattle.answers.specs.Answer.{Answer}
use Rattle.answers.specs.Answer as A
use Rattle.answers.specs.Numbers.{accepts}
use Rattle.answers.proofs.StageLaws.{both_stages, passed}
use Rattle.layout.specs.Shaped.{Shaped}
use Rattle.tree.specs.Path.{path_of}
use Rattle.tree.specs.Whole.{whole_of}
use Rattle.drive.specs.declared.Drive.{Drive}
use Rattle.drive.specs.Drive.{shape_of, gauge_of}
use Rattle.drive.specs.Opening.{measure_of, opening_of}
use Rattle.drive.proofs.OpeningLaws.{measure_lent}
use Rattle.summaries.specs.Entries.{summary_length, built, renewed}
use Rattle.summaries.specs.Calls.{top_answer, build_answer, build_summary, renew_answer, renew_summary}

module _ (d : Drive) (v : List ℕ) (len : ℕ) where
  -- an accepted top report
  pub record Held : Type 0 where
    pub lent : Shaped (shape_of d) v
    pub long : len ≡ summary_length d.n
    pub opens : accepts (opening_of d v) ≡ true

  pub top-told : accepts (top_answer d v len) ≡ true → Held
  unfolding top_answer
  top-told e =
      let q = both_stages (measure_of d v) _ e in
      let t = passed (eqb len (summary_length d.n)) (opening_of d v) A.Length refl q.1 in
      record { lent = measure_lent d v q.0; long = eqb-true len (summary_length d.n) t.0; opens = t.1 }

  -- building goes on with 7 whole
  pub build-told : accepts (build_answer d v len) ≡ true → Held × (accepts (whole_of (shape_of d) (gauge_of d) v) ≡ true)
  unfolding build_answer
  build-told e = let q = both_stages (top_answer d v len) _ e in (top-told q.0, q.1)

  -- renewing with 8, 7 path
  pub renew-told : (n : ℕ) → accepts (renew_answer d v len n) ≡ true → Held × (n < d.n) × (accepts (path_of (shape_of d) (gauge_of d) v n) ≡ true)
  unfolding renew_answer
  renew-told n e =
      let q = both_stages (top_answer d v len) _ e in
      let t = passed (ltb n d.n) (path_of (shape_of d) (gauge_of d) v n) A.PastEnd refl q.1 in
      (top-told q.0, ltb-true n d.n t.0, t.1)

-- the bytes of an accepted call, and of a refused one
module _ (d : Drive) (v b : List ℕ) {a : Answer} where
  pub build_stores : a ≡ build_answer d v (length b) → accepts a ≡ true → built (shape_of d) d.epoch v b ≡ build_summary d v b
  unfolding build_summary
  build_stores e h = sym (yes _ (rw e at h) refl)

  pub build-leaves : a ≡ build_answer d v (length b) → accepts a ≡ false → b ≡ build_summary d v b
  unfolding build_summary
  build-leaves e h = sym (no _ (rw e at h) refl)

  pub renew_stores : (n : ℕ) → a ≡ renew_answer d v (length b) n → accepts a ≡ true → renewed (shape_of d) d.epoch v n b ≡ renew_summary d v b n
  unfolding renew_summary
  renew_stores n e h = sym (yes _ (rw e at h) refl)

  pub renew-leaves : (n : ℕ) → a ≡ renew_answer d v (length b) n → accepts a ≡ false → b ≡ renew_summary d v b n
  unfolding renew_summary
  renew-leaves n e h = sym (no _ (rw e at h) refl)
