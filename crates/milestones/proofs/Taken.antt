-- "No false `open=`": every accepted report's own line is taken, and lines of reports, one after the other, close the fleet.
use mathlib.Core.Path.{◌≡◌, refl, ap, ◌∙◌}
use mathlib.Core.Bool.{Bool, true, false}
use mathlib.Core.Logic.{◌⊎◌, inl, inr}
use mathlib.Core.List.{List, [], ◌∷◌, ◌++◌, append_assoc, map}
use Prim.Native.Nat.{ℕ, zero, suc, ◌+◌, ◌-◌, ◌*◌, ◌<◌, ◌≤◌}
use native.Mathlib.Nat.{mul-le-mul_right}
use native.Mathlib.Omega.{arith}
use lib.ListN.{length, get_or, length-map}
use Rattle.base.specs.Pick.{pick}
use Rattle.base.proofs.PickLaws.{told}
use Rattle.answers.specs.Answer.{Answer}
use Rattle.answers.specs.Answer as A
use Rattle.answers.specs.Numbers.{accepts}
use Rattle.layout.specs.declared.Shape.{Shape}
use Rattle.layout.proofs.Limits.{limits}
use Rattle.records.specs.Journal.{flake_count}
use Rattle.records.specs.Record.{record_of}
use Rattle.records.proofs.CountLaws.{present-le}
use Rattle.drive.specs.declared.Drive.{Drive}
use Rattle.drive.specs.Drive.{shape_of}
use Rattle.reports.specs.declared.told.Counts.{Counts}
use Rattle.reports.specs.Counts.{is_moved, count_of, plus, counts_in}
use Rattle.reports.specs.Report.{report_answer, report_of}
use Rattle.reports.proofs.CountLaws.{counts_stand}
use Rattle.reports.proofs.ReportLaws.{report-accepted}
use Rattle.reports.proofs.AnswerLaws.{report_is}
use Rattle.line.specs.Lines.{newline, report_text, refusal_line}
use Rattle.line.specs.Reading.{up_to, past}
use Rattle.line.proofs.ReadLaws.{free, up_to_lem, past_to}
use Rattle.line.proofs.FieldLaws.{report-free}
use Rattle.standings.specs.declared.Standing.{Standing}
use Rattle.standings.specs.Standing.{standing_text, standing_in, taken}
use Rattle.standings.proofs.StandingLaws.{Possible}
use Rattle.standings.proofs.TakenLaws.{taken-possible, text_tells, text_taken}
use Rattle.totals.specs.Fleet.{fleet_of}
use Rattle.fleets.specs.Lines.{lines_of, closed_line, fleet_line}
use Rattle.fleets.specs.Claims.{AllTaken}
use Rattle.fleets.proofs.GatherLaws.{lines_first}
use Rattle.fleets.proofs.OpenLaws.{fleet_closed}
use Rattle.milestones.specs.Reported.{standing_of, told_text, Reporting, told_by, sheets_of}

-- how many flakes moved nuggets and nuggets left hold
record Room (p n : ℕ) (c : Counts) : Type 0 where
  moved_few : c.moved ≤ n
  done_few : c.done ≤ p * c.moved
  rest_few : c.flakes ≤ c.done + p * (n - c.moved)

room_more : (p n : ℕ) (c : Counts) (b : Bool) (k : ℕ) → k ≤ p → Room p n c → Room p (suc n) (plus c (record { moved = pick b 1 0; flakes = k; done = pick b k 0 }))
room_more p n c true k l h =
    let e : suc n - (c.moved + 1) ≡ n - c.moved = omega arith in
    record { moved_few = omega (arith, h.moved_few); done_few = omega (arith, h.done_few); rest_few = rw e (omega (arith, h.rest_few)) }
room_more p n c false k l h =
    let e : suc n - (c.moved + 0) ≡ suc (n - c.moved) = omega (arith, h.moved_few) in
    record { moved_few = omega (arith, h.moved_few); done_few = omega (arith, h.done_few); rest_few = rw e (omega (arith, h.rest_few)) }

counts-room : (s : Shape) (p e : ℕ) (v : List ℕ) (n : ℕ) → Room p n (counts_in s p e v n)
unfolding counts_in count_of
counts-room s p e v zero = record { moved_few = omega arith; done_few = omega arith; rest_few = omega arith }
counts-room s p e v (suc n) =
    room_more p n (counts_in s p e v n) (is_moved s e v n) (flake_count p (record_of s v n).held) (present-le p (record_of s v n).held) (counts-room s p e v n)

module _ (d : Drive) (v : List ℕ) (e : report_answer d v ≡ A.Accepted) where
  abbrev counts : Counts
  counts = counts_in (shape_of d) d.p d.epoch v d.n

  abbrev standing : Standing
  standing = record { n = d.n; counts = counts }

  -- an accepted report's numbers are possible
  report-possible : Possible (record { n = d.n; counts = counts_in (shape_of d) d.p d.epoch v d.n })
  report-possible =
      let l = limits (shape_of d) (report_is d v (ap accepts e)).lent.limited in
      let r = counts-room (shape_of d) d.p d.epoch v d.n in
      let s = counts_stand (shape_of d) d.p d.epoch v d.n in
      record {
        some = l.some;
        few = omega (arith, l.few);
        moved_few = s.moved_few;
        done_present = s.done_le;
        done_few = omega (arith, r.done_few, mul-le-mul_right counts.moved l.narrow);
        rest_few = omega (arith, r.rest_few, mul-le-mul_right (d.n - counts.moved) l.narrow);
      }

  -- its own line is taken, and tells its numbers
  pub line_taken : (taken (told_text (report_of d v)) ≡ true) × (standing_in (told_text (report_of d v)) ≡ standing_of (report_of d v))
  unfolding standing_text
  line_taken = rw (report-accepted d v (ap accepts e)) (text_taken standing report-possible, text_tells standing report-possible)

-- "that is refused": a refusal's line is never taken
abbrev first : List ℕ → ℕ
first l = get_or l 0 0

standing_first : (t : Standing) → first (standing_text t) ≡ 110
unfolding standing_text report_text
standing_first t = refl

pub refused-bad : (a : Answer) → taken (up_to 10 (refusal_line a)) ≡ false
unfolding refusal_line up_to
refused-bad a = go (told (taken (up_to 10 (refusal_line a))))
  where
    go : (taken (up_to 10 (refusal_line a)) ≡ true) ⊎ (taken (up_to 10 (refusal_line a)) ≡ false) → taken (up_to 10 (refusal_line a)) ≡ false
    go (inl h) =
        let l = up_to 10 (refusal_line a) in
        let r : first (up_to 10 (refusal_line a)) ≡ 114 = refl in
        absurd (omega (arith, standing_first (standing_in l), ap first (taken-possible l h).1, r))
    go (inr h) = h

-- a line with its newline, and lines behind it
lines_line : (l rest : List ℕ) → free 10 l ≡ true → lines_of ((l ++ newline) ++ rest) ≡ l ∷ lines_of rest
lines_line [] rest f = lines_first 10 rest ∙ cut
  where
    cut : up_to 10 (10 ∷ rest) ∷ lines_of (past 10 (10 ∷ rest)) ≡ [] ∷ lines_of rest
    cut = rw (up_to_lem 10 [] rest f, past_to 10 [] rest f)
lines_line (b ∷ l) rest f = rw (append_assoc l newline rest) (lines_first b (l ++ (10 ∷ rest)) ∙ rw (up_to_lem 10 (b ∷ l) rest f, past_to 10 (b ∷ l) rest f))

-- the lines of drives' sheets are those
sheets_lines : (xs : List Reporting) → lines_of (sheets_of xs) ≡ map (λ x. told_text (told_by x)) xs
unfolding sheets_of lines_of
sheets_lines [] = refl
sheets_lines (x ∷ xs) =
    let r = told_by x in
    lines_line (told_text r) (sheets_of xs) (report-free r.n r.moved r.left r.flakes r.share r.done) ∙ ap (λ (ls : List (List ℕ)). told_text r ∷ ls) (sheets_lines xs)

each-taken : (xs : List Reporting) (k : ℕ) → k < length (map (λ x. told_text (told_by x)) xs) → taken (get_or (map (λ x. told_text (told_by x)) xs) k []) ≡ true
each-taken [] k h = absurd (omega arith)
each-taken (x ∷ xs) zero h = (line_taken x.drive x.volume x.accepted).0
each-taken (x ∷ xs) (suc k) h = each-taken xs k (omega arith)

tells-each : (xs : List Reporting) → map standing_in (map (λ x. told_text (told_by x)) xs) ≡ map (λ x. standing_of (told_by x)) xs
tells-each [] = refl
tells-each (x ∷ xs) = λ i. (line_taken x.drive x.volume x.accepted).1 i ∷ tells-each xs i

-- up to 256 drives, each with an accepted report: the fleet closes, with their numbers
pub reports_close : (xs : List Reporting) → 1 ≤ length xs → length xs ≤ 256 → fleet_line (sheets_of xs) ≡ closed_line (fleet_of (map (λ x. standing_of (told_by x)) xs))
reports_close xs some few =
    let texts = map (λ x. told_text (told_by x)) xs in
    let is = sheets_lines xs in
    let long : length texts ≡ length xs = length-map xs (λ x. told_text (told_by x)) in
    let all : AllTaken 256 (lines_of (sheets_of xs)) = rw is (record { few = omega (arith, long); each = each-taken xs }) in
    let more : 1 ≤ length (lines_of (sheets_of xs)) = rw is (omega (arith, long)) in
    fleet_closed (sheets_of xs) more all ∙ ap (λ (ts : List Standing). closed_line (fleet_of ts)) (ap (map standing_in) is ∙ tells-each xs)
