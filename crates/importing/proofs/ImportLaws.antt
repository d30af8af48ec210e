-- An import by what the code did: refused before the paths, by the tests of the write, or done.
use mathlib.Core.Path.{◌≡◌, refl, sym, ap, ◌∙◌}
use mathlib.Core.Bool.{true, false}
use mathlib.Core.Logic.{⊎_elim}
use mathlib.Core.List.{List}
use Prim.Native.Nat.{ℕ, ◌*◌, ◌<◌, ◌≤◌}
use native.Mathlib.Nat.{mul-le-mul}
use native.Mathlib.Omega.{arith}
use lib.ListN.{length}
use Rattle.base.proofs.PickLaws.{told, yes, no}
use Rattle.layout.specs.Spots.{capacity}
use Rattle.layout.specs.Shaped.{Shaped}
use Rattle.layout.proofs.Limits.{limits}
use Rattle.answers.specs.Answer.{Answer}
use Rattle.answers.specs.Numbers.{accepts}
use Rattle.answers.proofs.StageLaws.{goes_on, stops, both_stages}
use Rattle.drive.specs.declared.Drive.{Drive}
use Rattle.drive.specs.declared.Done.{Done}
use Rattle.drive.specs.Drive.{shape_of}
use Rattle.changes.specs.Change.{settled}
use Rattle.changes.specs.Write.{write_answer, write_work, written_drive, write_done, write_volume}
use Rattle.sectors.proofs.SectorLaws.{length-decrypted}
use Rattle.writing.proofs.AnswerLaws.{met_stored, met_refused}
use Rattle.handing.specs.Handing.{hand_answer, import_answer, import_bytes, import_done, import_volume}
use Rattle.handing.proofs.HandLaws.{HandGranted, hand_told}

-- the answer, test by test
module _ (d : Drive) (v one two : List ℕ) (len : ℕ) {a : Answer} (ea : a ≡ hand_answer d v one two len) where
  pub answer-first : accepts a ≡ false → a ≡ import_answer d v one two len
  unfolding import_answer
  answer-first h = ea ∙ sym (stops (hand_answer d v one two len) _ (ap accepts (sym ea) ∙ h))

  pub answer_then : accepts a ≡ true → {b : Answer} → b ≡ write_answer d v 0 len → b ≡ import_answer d v one two len
  unfolding import_answer
  answer_then h eb = eb ∙ sym (goes_on (hand_answer d v one two len) _ (ap accepts (sym ea) ∙ h))

module _ (d : Drive) (v one two bytes : List ℕ) {a : Answer} (ea : a ≡ import_answer d v one two (length bytes)) where
  abbrev plain : List ℕ
  plain = import_bytes one two bytes

  abbrev first : Answer
  first = hand_answer d v one two (length bytes)

  -- what an accepted import was asked
  pub both_accept : accepts a ≡ true → (accepts (hand_answer d v one two (length bytes)) ≡ true) × (accepts (write_answer d v 0 (length bytes)) ≡ true)
  unfolding import_answer
  both_accept h = both_stages first _ (ap accepts (sym ea) ∙ h)

  pub granted : accepts a ≡ true → HandGranted d v one two (length bytes)
  granted h = hand_told d v one two (length bytes) (both_accept h).0

  -- past the first tests the answer, the drive and the volume are the write's
  module _ (on : accepts first ≡ true) where
    even-long : length plain ≡ length bytes
    even-long = length-decrypted one two 0 bytes (hand_told d v one two (length bytes) on).even

    by_write : a ≡ write_answer d v 0 (length plain)
    unfolding import_answer
    by_write = ea ∙ goes_on first _ on ∙ ap (λ (m : ℕ). write_answer d v 0 m) (sym even-long)

    import_then : {r : Done} {w : List ℕ} → (r ≡ write_done d v 0 plain) × (w ≡ write_volume d v 0 plain) → (r ≡ import_done d v one two bytes) × (w ≡ import_volume d v one two bytes)
    unfolding import_done import_volume
    import_then p = (p.0 ∙ sym (yes _ on refl), p.1 ∙ sym (yes _ on refl))

  -- refused before the paths: all as it came
  import-first : accepts first ≡ false → (record { answer = a; drive = d } ≡ import_done d v one two bytes) × (v ≡ import_volume d v one two bytes)
  unfolding import_answer import_done import_volume
  import-first off = (ap (λ (x : Answer). record { answer = x; drive = d }) (ea ∙ stops first _ off) ∙ sym (no _ off refl), sym (no _ off refl))

  pub import-refused : accepts a ≡ false → (record { answer = a; drive = d } ≡ import_done d v one two bytes) × (v ≡ import_volume d v one two bytes)
  import-refused h = ⊎_elim (λ on. import_then on (met_refused d v 0 plain (by_write on) h)) import-first (told (accepts first))

  pub import-stored : accepts a ≡ true → 0 < length (import_bytes one two bytes) → {r : Drive} {w : List ℕ}
      → r ≡ written_drive d v 0 (import_bytes one two bytes) → w ≡ settled (written_drive d v 0 (import_bytes one two bytes)) (write_work d v 0 (import_bytes one two bytes))
      → (record { answer = a; drive = r } ≡ import_done d v one two bytes) × (w ≡ import_volume d v one two bytes)
  import-stored h some er ew =
      let on = (both_accept h).0 in
      import_then on (met_stored d v 0 plain (by_write on) h some er ew)

-- no drive is without contents
pub some_bytes : (d : Drive) (v : List ℕ) {len : ℕ} → Shaped (shape_of d) v → len ≡ capacity (shape_of d) → 0 < len
some_bytes d v lent size =
    let l = limits (shape_of d) lent.limited in
    let many : 1 * 1 * 64 ≤ capacity (shape_of d) = mul-le-mul (mul-le-mul l.some l.flakes) l.wide in
    omega (arith, size, many)
