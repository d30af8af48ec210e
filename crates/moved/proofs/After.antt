-- What an accepted move leaves is untouched: the head is the drive's, and every record, node and tag is as it has to be.
use mathlib.Core.Path.{◌≡◌, refl, sym, ap, ◌∙◌}
use mathlib.Core.Bool.{true}
use mathlib.Core.Logic.{◌⊎◌, inl, inr}
use mathlib.Core.List.{List}
use Prim.Native.Nat.{ℕ, ◌+◌, ◌^◌, ◌<◌}
use native.Mathlib.Nat.{lt_of_lt_of_le}
use native.Mathlib.Omega.{arith}
use lib.Dec.{eqb}
use lib.ListN.{length}
use lib.Seq.{sets}
use lib.Pow.{pow_mono}
use borrow.Author.Tests.{eq-eqb, lt-ltb}
use Rattle.base.specs.Pick.{pick}
use Rattle.base.specs.Lists.{part}
use Rattle.base.proofs.PickLaws.{yes, both_right, both-on}
use Rattle.base.proofs.PartLaws.{part-sets}
use Rattle.base.proofs.FoldLaws.{same_refl}
use Rattle.answers.specs.Answer as A
use Rattle.layout.specs.declared.Shape.{Shape}
use Rattle.layout.specs.Shape.{known_version, in_limits, width_of}
use Rattle.layout.specs.Shaped.{Shaped}
use Rattle.layout.specs.Parts.{flakes_at, record_at, tag_at}
use Rattle.layout.specs.Spots.{capacity}
use Rattle.layout.proofs.Limits.{limits}
use Rattle.layout.proofs.Places.{record_room}
use Rattle.records.specs.declared.Record.{Record}
use Rattle.records.specs.Journal.{bit}
use Rattle.records.specs.Record.{record_bytes, record_of, well_formed, Codes}
use Rattle.records.proofs.RecordLaws.{length_record, read-stored, record_told}
use Rattle.records.proofs.RuleLaws.{formed-spent, formed_lies, formed-held, formed-fits, formed-keycount, formed-epoch, formed-by}
use Rattle.keys.specs.Pads.{pad_of}
use Rattle.keys.specs.Tags.{covered, tag_of}
use Rattle.nodes.specs.Nodes.{record_part}
use Rattle.tree.specs.Path.{formed}
use Rattle.tree.specs.Good.{AllGood}
use Rattle.tree.proofs.WholeLaws.{whole-good, whole-formed}
use Rattle.drive.specs.declared.Drive.{Drive}
use Rattle.drive.specs.Drive.{shape_of, gauge_of, is_changing, kept_old}
use Rattle.drive.specs.Head.{head_of}
use Rattle.drive.specs.Opening.{state_fits, in_form, opening_of}
use Rattle.drive.proofs.OpeningLaws.{opening-told}
use Rattle.nuggets.specs.Nugget.{secret_for, stored_in, contents_in, contents_of}
use Rattle.nuggets.specs.Tests.{good_flake, good_flake_of}
use Rattle.opening.specs.Mount.{mount_done}
use Rattle.opening.proofs.Reopens.{Handed, length-head, mounts-back}
use Rattle.changes.specs.Change.{advanced}
use Rattle.changes.proofs.SettleLaws.{settled_lent, settled-head, settled-behind, settled_same, settled-good}
use Rattle.detection.proofs.RightLaws.{tag_right}
use Rattle.history.proofs.Quiet.{Untouched, whole_quiet}
use Rattle.history.proofs.Heads.{settled_opens}
use Rattle.history.proofs.Changed.{kept-changing}
use Rattle.history.proofs.Sound.{counter_room_lem}
use Rattle.moving.specs.Carry.{entered, nugget_under, new_tag, carried_over, moved_drive, moved_volume}
use Rattle.moving.proofs.AnswerLaws.{Leaves, entered-limited}
use Rattle.moved.specs.Moves.{Typed, Carried}
use Rattle.moved.proofs.Parts as P

-- what was moved had passed every test
pub leaves-untouched : (leave enter : ℕ) (d : Drive) (v : List ℕ) (len : ℕ) → Leaves leave enter d v len → Untouched d v
unfolding good_flake tag_of covered
leaves-untouched leave enter d v len x =
    record {
      opens = x.opens;
      good = whole-good (shape_of d) (gauge_of d) v x.whole;
      well = whole-formed (shape_of d) (gauge_of d) v x.whole;
      tags = λ n f a b on. rw (tag_right d v n (record_of (shape_of d) v n).held f (x.held n a) b on) (same_refl _);
    }

-- a record that is well formed is within its widths, and since its masks are one it fits either version's record
pub codes_over : (leave enter : ℕ) (d : Drive) (v : List ℕ) (len : ℕ) → Typed d → Leaves leave enter d v len
    → (n : ℕ) → n < d.n → Codes (entered enter d) (record_of (shape_of d) v n)
codes_over leave enter d v len typed x n h =
    let r = record_of (shape_of d) v n in
    let formed = whole-formed (shape_of d) (gauge_of d) v x.whole n h in
    let wide = pow_mono (limits (shape_of d) x.lent.limited).narrow in
    record {
      keycount_width = omega (arith, formed-keycount d.p (gauge_of d) r formed, typed.counter_lt);
      spent_width = lt_of_lt_of_le (formed-spent d.p (gauge_of d) r formed) wide;
      held_width = lt_of_lt_of_le (formed-held d.p (gauge_of d) r formed) wide;
      epoch_width = low r (formed-epoch d.p (gauge_of d) r formed);
      one_mask = λ one. x.kept n h;
    }
  where
    low : (r : Record) → (r.epoch ≡ d.epoch) ⊎ ((is_changing d.state ≡ true) × (r.epoch + 1 ≡ d.epoch)) → r.epoch < 2 ^ 16
    low r (inl e) = omega (arith, e, typed.epoch_lt)
    low r (inr e) = omega (arith, e.1, typed.epoch_lt)

module _ (leave enter : ℕ) (d : Drive) (v : List ℕ) (len : ℕ) (known : known_version enter ≡ true) (salted : length d.salt ≡ 16)
    (codes : (n : ℕ) → n < d.n → Codes (entered enter d) (record_of (shape_of d) v n)) (x : Leaves leave enter d v len) where
  abbrev s : Shape
  s = shape_of d

  abbrev t : Shape
  t = entered enter d

  abbrev c : List ℕ
  c = carried_over d t v

  abbrev e : Drive
  e = moved_drive enter d v

  abbrev u : List ℕ
  u = moved_volume enter d v

  abbrev was : ℕ → Record
  was n = record_of s v n

  limited : in_limits t ≡ true
  limited = entered-limited enter d known x.lent.limited

  over_lent : Shaped t c
  over_lent = P.over_lent enter d v x.lent limited

  long : length (head_of e) ≡ 104
  unfolding advanced
  long = length-head e (salted)

  formed_was : (n : ℕ) → n < d.n → well_formed d.p (gauge_of d) (was n) ≡ true
  formed_was n h = whole-formed s (gauge_of d) v x.whole n h

  pub record_bytes_lem : (n : ℕ) → n < d.n → record_part t u n ≡ record_bytes t (was n)
  record_bytes_lem n h = settled-behind t e c long (record_at t n) (width_of t) (omega arith) ∙ P.over_record enter d v x.lent limited n h

  pub record_after : (n : ℕ) → n < d.n → record_of t u n ≡ was n
  record_after n h =
      let room = record_room n (settled_lent t e c long over_lent) h in
      record_told t (record_at t n) u (sets u (record_at t n) (record_bytes t (was n)))
      (record_bytes_lem n h ∙ sym (part-sets u (record_at t n) (width_of t) (record_bytes t (was n)) (length_record t (was n)) room))
      ∙ read-stored t u (record_at t n) (was n) (codes n h) room

  pub stored-after : (n f : ℕ) → n < d.n → f < d.p → stored_in t u n f ≡ stored_in s v n f
  stored-after n f a b = (settled_same t e c long n f).stored ∙ P.over-stored enter d v x.lent limited n f a b

  pub tag-after : (n f : ℕ) → n < d.n → f < d.p → part (tag_at t n f) 16 u ≡ new_tag s v (nugget_under d t (was n) n) f
  tag-after n f a b = (settled_same t e c long n f).tag ∙ P.over-tag enter d v x.lent limited n f a b

  pub flakes-after : part (flakes_at t) (capacity t) u ≡ part (flakes_at s) (capacity s) v
  flakes-after = settled-behind t e c long (flakes_at t) (capacity t) (omega arith) ∙ P.over-flakes enter d v x.lent limited

  pub good-after : AllGood t u
  good-after = settled-good t e c long (P.over-good enter d v x.lent limited)

  pub lent_after : Shaped t u
  lent_after = settled_lent t e c long over_lent

  pub head-after : part 0 104 u ≡ head_of e
  head-after = settled-head t e c long over_lent

  -- a nugget's secret is named as before: a steady drive's old one names none
  pub secret-after : (n : ℕ) → n < d.n → secret_for e (was n).epoch ≡ secret_for d (was n).epoch
  unfolding secret_for advanced
  secret-after n h = go (formed-epoch d.p (gauge_of d) (was n) (formed_was n h))
    where
      go : ((was n).epoch ≡ d.epoch) ⊎ (((gauge_of d).changing ≡ true) × ((was n).epoch + 1 ≡ d.epoch))
          → pick (eqb (was n).epoch d.epoch) d.present (kept_old d.state d.old) ≡ pick (eqb (was n).epoch d.epoch) d.present d.old
      go (inl q) = yes _ (eq-eqb (was n).epoch d.epoch q) refl ∙ sym (yes _ (eq-eqb (was n).epoch d.epoch q) refl)
      go (inr q) = ap (λ (o : List ℕ). pick (eqb (was n).epoch d.epoch) d.present o) (kept-changing d.state d.old q.0)

  pub formed-after : (n : ℕ) → n < d.n → well_formed d.p (gauge_of e) (was n) ≡ true
  unfolding advanced
  formed-after n h =
      let f = formed_was n h in
      formed-by d.p (gauge_of e) (was n) (lt-ltb (was n).spent (2 ^ d.p) (formed-spent d.p (gauge_of d) (was n) f)) (formed_lies d.p (gauge_of d) (was n) f)
      (formed-fits d.p (gauge_of d) (was n) f) (omega (arith, formed-keycount d.p (gauge_of d) (was n) f))

  well_after : (n : ℕ) → n < d.n → formed t (gauge_of e) u n ≡ true
  well_after n h = rw (record_after n h) (formed-after n h)

  tags-good : (n f : ℕ) → n < d.n → f < d.p → bit (record_of t u n).held f ≡ true → good_flake_of e u n f ≡ true
  unfolding good_flake new_tag advanced
  tags-good n f a b on =
      let held : bit (was n).held f ≡ true = rw (record_after n a) at on in
      rw (tag-after n f a b, stored-after n f a b, record_after n a, secret-after n a, held) (same_refl _)

  opens_after : opening_of e u ≡ A.Accepted
  unfolding advanced in_form
  opens_after =
      settled_opens e c (salted) (both-on limited (both_right (in_limits s) (state_fits d.state d.epoch) (opening-told d v x.opens).form)) over_lent.size refl

  pub moved-untouched : Untouched e u
  unfolding advanced
  moved-untouched = record { opens = opens_after; good = good-after; well = well_after; tags = tags-good }

  pub moved_handed : d.epoch < 256 ^ 2 → d.counter < 256 ^ 8 → Handed e d.old
  unfolding advanced
  moved_handed epoch counter =
      record { epoch_lt = epoch; counter_lt = counter_room_lem d.counter counter x.counter_room; salt_long_lem = salted; kept = refl }

  -- it mounts, and gives the very drive
  pub moved_back : d.epoch < 256 ^ 2 → d.counter < 256 ^ 8 → mount_done u d.present d.old (d.counter + 1) ≡ record { answer = A.Accepted; drive = e }
  unfolding advanced
  moved_back epoch counter = mounts-back e u d.old (moved_handed epoch counter) opens_after (whole_quiet e u moved-untouched)

  -- "same contents"
  contents_after_lem : (n f : ℕ) → n < d.n → f < d.p → contents_of e u n f ≡ contents_of d v n f
  unfolding contents_in advanced pad_of
  contents_after_lem n f a b = rw (record_after n a, stored-after n f a b, secret-after n a) refl

  pub carried-after : (n : ℕ) → n < d.n → Carried d e v u n
  unfolding advanced new_tag
  carried-after n h =
      record {
        record_is = record_after n h;
        all_held = rw (record_after n h) (x.kept n h);
        stored = λ f b. stored-after n f h b;
        contents = λ f b. contents_after_lem n f h b;
        anew = λ f b on. tag-after n f h b ∙ rw (record_after n h, stored-after n f h b, secret-after n h, on) refl;
        copied = λ f b off. tag-after n f h b ∙ rw off refl;
      }
