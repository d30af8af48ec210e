-- An accepted report field by field, read off the records; and where nothing is altered what stored flake answers and shows.
use mathlib.Core.Path.{◌≡◌, refl, ap, sym, ◌∙◌}
use mathlib.Core.Bool.{Bool, true, false, not}
use mathlib.Core.List.{List}
use Prim.Native.Nat.{ℕ, zero, suc, ◌+◌, ◌*◌, ◌-◌, ◌/◌, min}
use native.Mathlib.Omega.{arith}
use lib.Dec.{eqb, ltb}
use Rattle.base.specs.Pick.{pick, both}
use Rattle.base.specs.Lists.{part}
use Rattle.base.proofs.PickLaws.{yes}
use Rattle.answers.specs.Answer as A
use Rattle.answers.specs.Numbers.{accepts}
use Rattle.answers.proofs.StageLaws.{goes_on}
use Rattle.layout.specs.Parts.{flake_at}
use Rattle.layout.proofs.Limits.{limits}
use Rattle.records.specs.Journal.{many, flake_count}
use Rattle.records.specs.Record.{record_of}
use Rattle.layout.specs.declared.Shape.{Shape}
use Rattle.drive.specs.declared.Drive.{Drive}
use Rattle.drive.specs.Drive.{shape_of}
use Rattle.drive.specs.Opening.{opening_of}
use Rattle.drive.proofs.OpeningLaws.{opening-measured}
use Rattle.reports.specs.declared.told.Report.{Report}
use Rattle.reports.specs.Counts.{flakes_in, count_of, counts_in, share_of}
use Rattle.reports.specs.Report.{report_answer, report_of}
use Rattle.reports.specs.Stored.{is_flake, stored_answer, stored_flake}
use Rattle.reports.proofs.AnswerLaws.{report_is}
use Rattle.reports.proofs.CountLaws.{counts-moved, counts-flakes, counts_stand}
use Rattle.reports.proofs.ShareLaws.{exact_flakes, cap_left, share-empty}
use Rattle.reports.proofs.ReportLaws.{report-accepted}

-- those that pass a test and those that don't are all
many-rest : (n : ℕ) (g : ℕ → Bool) → many n g + many n (λ i. not (g i)) ≡ n
unfolding many
many-rest zero g = refl
many-rest (suc n) g = go (g n) (many-rest n g)
  where
    go : (b : Bool) → many n g + many n (λ i. not (g i)) ≡ n → many n g + pick b 1 0 + (many n (λ i. not (g i)) + pick (not b) 1 0) ≡ suc n
    go true h = omega arith
    go false h = omega arith

-- so those that don't are the rest
pub many_not : (n : ℕ) (g : ℕ → Bool) → n - many n g ≡ many n (λ i. not (g i))
many_not n g = omega (arith, many-rest n g)

-- "present flakes in moved nuggets", nugget by nugget
unfoldable pub done_in : Shape → ℕ → ℕ → List ℕ → ℕ → ℕ
done_in s p e v zero = 0
done_in s p e v (suc n) = done_in s p e v n + pick (eqb (record_of s v n).epoch e) (flake_count p (record_of s v n).held) 0

done_is : (s : Shape) (p e : ℕ) (v : List ℕ) (n : ℕ) → done_in s p e v n ≡ (counts_in s p e v n).done
unfolding counts_in count_of done_in
done_is s p e v zero = refl
done_is s p e v (suc n) = rw (done_is s p e v n)

module _ (d : Drive) (v : List ℕ) where
  -- "Report gives N, nuggets moved (epoch equal to the head's), left, flakes present, and share"
  pub record Fields (r : Report) : Type 0 where
    pub answer_told : r.answer ≡ A.Accepted
    pub n_told : r.n ≡ d.n
    pub moved_told : r.moved ≡ many d.n (λ i. eqb (record_of (shape_of d) v i).epoch d.epoch)
    pub left_told : r.left ≡ many d.n (λ i. not (eqb (record_of (shape_of d) v i).epoch d.epoch))
    pub flakes_told : r.flakes ≡ flakes_in (shape_of d) d.p v d.n
    pub done_told : r.done ≡ done_in (shape_of d) d.p d.epoch v d.n
    -- document 02, Item 1, without a flake and with some
    pub empty_told : r.flakes ≡ 0 → r.share ≡ r.moved * 10000 / r.n
    pub share_told : (r.flakes ≡ 0 → ⊥) → r.share ≡ min (pick (eqb r.left 0) 10000 9999) (r.done * 10000 / r.flakes)

  pub report_exact : report_answer d v ≡ A.Accepted → Fields (report_of d v)
  unfolding share_of
  report_exact e =
      let c = counts_in (shape_of d) d.p d.epoch v d.n in
      let stand = counts_stand (shape_of d) d.p d.epoch v d.n in
      let some = (limits (shape_of d) (report_is d v (ap accepts e)).lent.limited).some in
      let moved = counts-moved (shape_of d) d.p d.epoch v d.n in
      rw (report-accepted d v (ap accepts e))
      (record {
        answer_told = e;
        n_told = refl;
        moved_told = moved;
        left_told = ap (λ (m : ℕ). d.n - m) moved ∙ many_not d.n (λ i. eqb (record_of (shape_of d) v i).epoch d.epoch);
        flakes_told = counts-flakes (shape_of d) d.p d.epoch v d.n;
        done_told = sym (done_is (shape_of d) d.p d.epoch v d.n);
        empty_told = share-empty d.p d.n c some stand;
        share_told = λ ne. rw (cap_left d.p d.n c some stand, exact_flakes d.n c ne) refl;
      })

  -- stored flake: 8 past the end, else accepted
  pub stored_exact : opening_of d v ≡ A.Accepted → (n f : ℕ) → stored_answer d v n f ≡ pick (both (ltb n d.n) (ltb f d.p)) A.Accepted A.PastEnd
  unfolding stored_answer is_flake
  stored_exact e n f = goes_on _ _ (opening-measured d v (ap accepts e))

  -- "as that part of the volume itself"
  pub stored-shown : (n f : ℕ) → stored_answer d v n f ≡ A.Accepted → stored_flake d v n f ≡ part (flake_at (shape_of d) n f) d.f v
  unfolding stored_flake
  stored-shown n f e = yes _ (ap accepts e) refl
