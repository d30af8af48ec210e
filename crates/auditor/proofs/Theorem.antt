-- The page answers the auditor's first question: for every input that mounts, what is read off its bytes is what the records say.
use mathlib.Core.Path.{◌≡◌, refl, sym, ap, ◌∙◌}
use mathlib.Core.Bool.{true}
use mathlib.Core.List.{List, [], ◌++◌}
use Prim.Native.Nat.{ℕ, suc, ◌-◌, ◌^◌, ◌<◌}
use native.Mathlib.Nat.{lt_of_lt_of_le, le_refl}
use native.Mathlib.Omega.{arith}
use lib.Dec.{leb, lit≤}
use lib.ListN.{length}
use borrow.Author.Tests.{leb-true}
use Rattle.base.specs.Lists.{part}
use Rattle.base.proofs.PickLaws.{yes, both_left, both_right}
use Rattle.base.proofs.PartLaws.{length_part}
use Rattle.words.specs.Le.{Bytes}
use Rattle.words.proofs.LeLaws.{num-lt, bytes-part}
use Rattle.answers.specs.Answer as A
use Rattle.answers.specs.Numbers.{accepts}
use Rattle.layout.specs.Parts.{record_at}
use Rattle.layout.proofs.Limits.{Limits, limits}
use Rattle.layout.proofs.Places.{record_inside, parts_inside}
use Rattle.records.specs.Record.{epoch_fits, record_of}
use Rattle.records.proofs.RuleLaws.{formed-fits}
use Rattle.records.proofs.RecordLaws.{read_codes}
use Rattle.layout.specs.Shaped.{Shaped}
use Rattle.tree.proofs.WholeLaws.{whole-formed}
use Rattle.keys.specs.Keys.{nugget_key}
use Rattle.drive.specs.declared.Drive.{Drive}
use Rattle.drive.specs.Drive.{shape_of, gauge_of}
use Rattle.opening.specs.Mount.{whole_in, opened_drive}
use Rattle.opening.proofs.HeadBack.{Opened, opened}
use Rattle.reports.specs.Report.{report_answer, report_of}
use Rattle.line.specs.Lines.{newline, report_line}
use Rattle.sheets.specs.Sheet.{present_in, old_in, outside_in, volume_in, input_sized, reported_line, mounted_text, mounted_by, sheet_line}
use Rattle.sheets.proofs.SheetLaws.{volume-taken}
use Rattle.sheets.proofs.Follows.{report_follows}
use Rattle.pages.specs.Page.{present_flakes, nugget_text, nugget_lines, counter_text, counter_line, old_text, old_line, drive_text, mounts, audit_page}
use Rattle.pages.proofs.MountLaws.{mounted-drive, mounted-answer, opened_lent}
use Rattle.line.specs.Reading.{up_to, past, lines_from, line_at, field_at, decimal_value}
use Rattle.auditor.specs.Reading.{line_read, told_of, times_listed}
use Rattle.auditor.specs.Question.{key_word, secret_named, Answers}
use Rattle.auditor.proofs.ListLaws.{times-present, times_above}
use Rattle.auditor.proofs.LineLaws.{LineTold, line-told, counter_told_lem, counter-free, old_told_lem, old_line-free}
use Rattle.auditor.proofs.PageLines.{Line, report_is_line, line-ends, line_text, last-ends, last_text, from_next, lines_through, nugget_line_lem}
use Rattle.auditor.proofs.KeyLaws.{key_word_lem, secret_named_lem}

-- keycount and epoch of each record within their widths
abbrev pub Narrow : Drive → List ℕ → Type 0
Narrow d v = (n : ℕ) → n < d.n → ((record_of (shape_of d) v n).keycount < 2 ^ 64) × ((record_of (shape_of d) v n).epoch < 2 ^ 16)

-- those of bytes are
narrow_bytes : (d : Drive) (v : List ℕ) → Shaped (shape_of d) v → Bytes v → Narrow d v
narrow_bytes d v lent bytes n h =
    let w = read_codes (shape_of d) v (record_at (shape_of d) n) bytes (omega (arith, lent.size, record_inside (shape_of d) n h, parts_inside (shape_of d))) in
    (w.keycount_width, w.epoch_width)

-- a drive whose volume is what it has to be
module _ (d : Drive) (v : List ℕ) (lent : Shaped (shape_of d) v) (narrow : Narrow d v) (whole : whole_in d v ≡ A.Accepted) where
  limited : Limits (shape_of d)
  limited = limits (shape_of d) lent.limited

  fits : (n : ℕ) → n < d.n → epoch_fits (gauge_of d) (record_of (shape_of d) v n).epoch ≡ true
  fits n h = formed-fits d.p (gauge_of d) (record_of (shape_of d) v n) (whole-formed (shape_of d) (gauge_of d) v whole n h)

  line : (n : ℕ) → n < d.n → LineTold d (record_of (shape_of d) v n) n
  line n h =
      let w = narrow n h in
      line-told d (record_of (shape_of d) v n) n (omega (arith, limited.few)) (lt_of_lt_of_le w.1 (lit≤ tt)) (lt_of_lt_of_le w.0 (lit≤ tt)) (omega (arith, limited.narrow))

  module _ (outside : ℕ) (first : List ℕ) (is-line : Line first) where
    abbrev page : List ℕ
    page = first ++ drive_text d v outside

    abbrev ending : List ℕ
    ending = counter_line outside ++ old_line d

    rest_is : past 10 page ≡ nugget_lines d v d.n ++ ending
    unfolding drive_text
    rest_is = (is-line (drive_text d v outside)).0

    first-line : line_at 0 page ++ newline ≡ first
    unfolding lines_from
    first-line = (is-line (drive_text d v outside)).1

    -- nugget n's line is the one behind those before it
    nugget_text_lem : (n : ℕ) → n < d.n → line_at (suc n) page ≡ nugget_text d (record_of (shape_of d) v n) n
    unfolding lines_from
    nugget_text_lem n h = ap (λ (t : List ℕ). line_at n t) rest_is ∙ nugget_line_lem d v d.n (λ k l. (line k l).newlines) n ending h

    counter-from : lines_from (suc d.n) page ≡ ending
    unfolding lines_from
    counter-from =
        ap (λ (t : List ℕ). lines_from d.n t) rest_is ∙ lines_through d v d.n (λ k l. (line k l).newlines) d.n ending (le_refl d.n)

    counter_line_lem : line_at (suc d.n) page ≡ counter_text outside
    counter_line_lem = ap (up_to 10) counter-from ∙ line_text (counter_text outside) (old_line d) (counter-free outside)

    old-from : lines_from (suc (suc d.n)) page ≡ old_line d
    old-from = from_next (suc d.n) page ∙ ap (past 10) counter-from ∙ line-ends (counter_text outside) (old_line d) (counter-free outside)

    old_line_lem : line_at (suc (suc d.n)) page ≡ old_text d
    old_line_lem = ap (up_to 10) old-from ∙ last_text (old_text d) (old_line-free d)

    page_ends : lines_from (suc (suc (suc d.n))) page ≡ []
    page_ends = from_next (suc (suc d.n)) page ∙ ap (past 10) old-from ∙ last-ends (old_text d) (old_line-free d)

    answered : outside < 10 ^ 20 → d.counter ≡ outside
        → (let r = report_of d v in first ≡ report_line r.n r.moved r.left r.flakes r.share r.done)
        → Answers page d v outside
    answered small counter is =
        let named : (n : ℕ) → n < d.n → (told_of page n).key ≡ key_word d (record_of (shape_of d) v n).epoch = λ n h. ap (λ (l : List ℕ). (line_read l).key) (nugget_text_lem n h) ∙ (line n h).key ∙ key_word_lem d (record_of (shape_of d) v n).epoch (fits n h) in
        let flakes : (n : ℕ) → n < d.n → (told_of page n).flakes ≡ present_flakes d.p (record_of (shape_of d) v n).held = λ n h. ap (λ (l : List ℕ). (line_read l).flakes) (nugget_text_lem n h) ∙ (line n h).flakes in
        record {
          sheet = first-line ∙ is;
          nugget = λ n h. ap (λ (l : List ℕ). (line_read l).nugget) (nugget_text_lem n h) ∙ (line n h).nugget;
          epoch = λ n h. ap (λ (l : List ℕ). (line_read l).epoch) (nugget_text_lem n h) ∙ (line n h).epoch;
          keycount = λ n h. ap (λ (l : List ℕ). (line_read l).keycount) (nugget_text_lem n h) ∙ (line n h).keycount;
          flakes = λ n f h l. ap (times_listed f) (flakes n h) ∙ times-present d.p (record_of (shape_of d) v n).held f l;
          no_others = λ n f h l. ap (times_listed f) (flakes n h) ∙ times_above d.p (record_of (shape_of d) v n).held f l;
          word = named;
          key = λ n h. ap (λ (s : List ℕ). nugget_key s d.salt n) (secret_named_lem d (record_of (shape_of d) v n).epoch (fits n h) ∙ ap (secret_named d) (sym (named n h)));
          counter = ap (λ (l : List ℕ). decimal_value (field_at 0 l)) counter_line_lem ∙ counter_told_lem outside small;
          held = counter;
          old = ap (field_at 0) old_line_lem ∙ old_told_lem d;
          ends = page_ends;
        }

-- the report after an accepted mount is accepted, so the sheet's line has its numbers
report_line_is : (d : Drive) (v : List ℕ) → report_answer d v ≡ A.Accepted
    → (let r = report_of d v in reported_line r ≡ report_line r.n r.moved r.left r.flakes r.share r.done)
unfolding reported_line report_of
report_line_is d v e = let accepted : accepts (report_of d v).answer ≡ true = rw e refl in yes _ accepted refl

module _ (i : List ℕ) (mounted : mounts i ≡ true) where
  size : input_sized i ≡ true
  unfolding mounts
  size = both_left (input_sized i) _ mounted

  accepted : accepts (mounted_by i).answer ≡ true
  unfolding mounts
  accepted = both_right (input_sized i) _ mounted

  abbrev drive : Drive
  drive = opened_drive (volume_in i) (present_in i) (old_in i)

  told : Opened (volume_in i) (opened_drive (volume_in i) (present_in i) (old_in i)) (outside_in i)
  told = opened (volume_in i) (present_in i) (old_in i) (outside_in i) (mounted-answer i accepted)

  sheet_is : sheet_line i ≡ reported_line (report_of drive (volume_in i))
  unfolding sheet_line mounted_text
  sheet_is = yes _ size (yes _ accepted (rw (mounted-drive i accepted)))

  page_is : audit_page i ≡ sheet_line i ++ drive_text drive (volume_in i) (outside_in i)
  unfolding audit_page
  page_is = rw (mounted, mounted-drive i accepted)

  lent : Shaped (shape_of drive) (volume_in i)
  lent = opened_lent (volume_in i) (present_in i) (old_in i) (outside_in i) told

  answers : Narrow drive (volume_in i) → outside_in i < 256 ^ 8 → report_answer drive (volume_in i) ≡ A.Accepted
      → Answers (audit_page i) (mounted_by i).drive (volume_in i) (outside_in i)
  answers narrow small reports =
      let v = volume_in i in
      let r = report_of drive v in
      let is : sheet_line i ≡ report_line r.n r.moved r.left r.flakes r.share r.done = sheet_is ∙ report_line_is drive v reports in
      let is-line : Line (sheet_line i) = rw is (report_is_line r.n r.moved r.left r.flakes r.share r.done) in
      rw (page_is, mounted-drive i accepted)
      (answered drive v lent narrow told.whole (outside_in i) (sheet_line i) is-line (lt_of_lt_of_le small (lit≤ tt)) told.counter is)

  -- whatever the list holds, if its records and its counter are within their widths and the report is accepted
  pub page_answers : Narrow (mounted_by i).drive (volume_in i) → outside_in i < 256 ^ 8 → report_answer (mounted_by i).drive (volume_in i) ≡ A.Accepted
      → Answers (audit_page i) (mounted_by i).drive (volume_in i) (outside_in i)
  page_answers narrow small reports =
      let e = mounted-drive i accepted in
      answers (rw e at narrow) small (rw e at reports)

  -- "Which flakes were under which key when the sheet was printed?"
  pub first_question : Bytes i → Answers (audit_page i) (mounted_by i).drive (volume_in i) (outside_in i)
  unfolding input_sized
  first_question bytes =
      let v : Bytes (volume_in i) = rw (volume-taken i) at (bytes-part 72 (length i - 72) i bytes) in
      let long : length (part 64 8 i) ≡ 8 = length_part 64 8 i (leb-true 72 (length i) (both_left (leb 72 (length i)) _ size)) in
      let small : outside_in i < 256 ^ 8 = rw long at (num-lt (part 64 8 i) (bytes-part 64 8 i bytes)) in
      answers (narrow_bytes drive (volume_in i) lent v) small (report_follows (volume_in i) (present_in i) (old_in i) (outside_in i) v (mounted-answer i accepted))
