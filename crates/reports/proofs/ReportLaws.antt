-- What a report says: of a refusal nothing, and of an accepted call numbers that belong together.
use mathlib.Core.Path.{◌≡◌, refl, sym}
use mathlib.Core.Bool.{true, false}
use mathlib.Core.Logic.{◌⊎◌, inl, inr}
use mathlib.Core.List.{List}
use Prim.Native.Nat.{ℕ, ◌+◌, ◌≤◌}
use native.Mathlib.Omega.{arith}
use Rattle.base.proofs.PickLaws.{yes, no, told}
use Rattle.layout.proofs.Limits.{Limits, limits}
use Rattle.answers.specs.Answer.{Answer}
use Rattle.answers.specs.Numbers.{accepts}
use Rattle.drive.specs.declared.Drive.{Drive}
use Rattle.drive.specs.Drive.{shape_of}
use Rattle.reports.specs.declared.told.Counts.{Counts}
use Rattle.reports.specs.Counts.{counts_in}
use Rattle.reports.specs.Report.{report_answer, counted, refused, report_of}
use Rattle.reports.proofs.CountLaws.{Counted, counts_stand, counts-below}
use Rattle.reports.proofs.ShareLaws.{moved-full, full-moved}
use Rattle.reports.proofs.AnswerLaws.{report_is}

module _ (d : Drive) (v : List ℕ) where
  abbrev counts : Counts
  counts = counts_in (shape_of d) d.p d.epoch v d.n

  stand : Counted d.p d.n counts
  stand = counts_stand (shape_of d) d.p d.epoch v d.n

  -- accepted: the counts of the records
  pub report-accepted : accepts (report_answer d v) ≡ true → report_of d v ≡ counted (report_answer d v) d.n (counts_in (shape_of d) d.p d.epoch v d.n)
  unfolding report_of
  report-accepted h = yes _ h refl

  -- refused: "all numbers zero"
  pub report-refused : accepts (report_answer d v) ≡ false → report_of d v ≡ refused (report_answer d v)
  unfolding report_of
  report-refused h = no _ h refl

  -- the code's counts are those
  pub told_is : {a : Answer} {c : Counts} → accepts (report_answer d v) ≡ true → a ≡ report_answer d v → c ≡ counts_in (shape_of d) 64 d.epoch v d.n
      → counted a d.n c ≡ report_of d v
  told_is q ea ec =
      let is = report_is d v q in
      let l : Limits (shape_of d) = limits (shape_of d) is.lent.limited in
      rw (ec, ea, counts-below (shape_of d) d.p d.epoch v d.n l.narrow is.masks) (sym (report-accepted q))

  pub refused_is : {a : Answer} → accepts (report_answer d v) ≡ false → a ≡ report_answer d v → refused a ≡ report_of d v
  refused_is q e = rw e (sym (report-refused q))

  -- moved and left are all nuggets
  pub report_sums : (report_of d v).moved + (report_of d v).left ≡ (report_of d v).n
  report_sums = go (told (accepts (report_answer d v)))
    where
      go : (accepts (report_answer d v) ≡ true) ⊎ (accepts (report_answer d v) ≡ false) → (report_of d v).moved + (report_of d v).left ≡ (report_of d v).n
      go (inl q) = rw (report-accepted q) (omega (arith, stand.moved_few))
      go (inr q) = rw (report-refused q)

  -- accepted: the share is 100.00 exactly if nothing is left
  pub report-full : accepts (report_answer d v) ≡ true
      → ((report_of d v).share ≡ 10000 → (report_of d v).left ≡ 0) × ((report_of d v).left ≡ 0 → (report_of d v).share ≡ 10000)
  report-full q =
      let l : Limits (shape_of d) = limits (shape_of d) (report_is d v q).lent.limited in
      rw (report-accepted q) (
        λ e. omega (arith, full-moved d.p d.n counts l.some stand e),
        λ e. moved-full d.p d.n counts l.some stand (omega (arith, stand.moved_few)),
      )

  -- the flakes done are among those present, and all of them if nothing is left
  pub report-done : ((report_of d v).done ≤ (report_of d v).flakes) × ((report_of d v).left ≡ 0 → (report_of d v).done ≡ (report_of d v).flakes)
  report-done = go (told (accepts (report_answer d v)))
    where
      go : (accepts (report_answer d v) ≡ true) ⊎ (accepts (report_answer d v) ≡ false)
          → ((report_of d v).done ≤ (report_of d v).flakes) × ((report_of d v).left ≡ 0 → (report_of d v).done ≡ (report_of d v).flakes)
      go (inl q) = rw (report-accepted q) (stand.done_le, λ e. stand.done_all (omega (arith, stand.moved_few)))
      go (inr q) = rw (report-refused q) (omega arith, λ e. refl)
