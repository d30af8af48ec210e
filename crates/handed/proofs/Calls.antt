-- Export by its sectors, and import by its write.
use mathlib.Core.Path.{◌≡◌, refl, sym, ap, ◌∙◌}
use mathlib.Core.Bool.{true, false}
use mathlib.Core.Logic.{⊎_elim}
use mathlib.Core.List.{List}
use Prim.Native.Nat.{ℕ, ◌+◌, ◌*◌, ◌≤◌}
use native.Mathlib.Omega.{arith}
use lib.ListN.{length, get_or}
use Rattle.base.specs.Lists.{part, tab}
use Rattle.base.proofs.PickLaws.{yes, no, told}
use Rattle.base.proofs.TabLaws.{length-tab, get_or-tab, tab_ext, part-tab}
use Rattle.answers.specs.Numbers.{accepts}
use Rattle.answers.proofs.StageLaws.{goes_on, stops, both_stages}
use Rattle.drive.specs.declared.Drive.{Drive}
use Rattle.drive.specs.declared.Done.{Done}
use Rattle.nuggets.specs.Nugget.{byte_of}
use Rattle.reading.specs.Read.{read_answer, read_buffer}
use Rattle.changes.specs.Write.{write_answer, write_done}
use Rattle.xts.specs.Xts.{xts_encrypted}
use Rattle.sectors.specs.Sectors.{encrypted_from}
use Rattle.sectors.proofs.SectorLaws.{length-decrypted, encrypted_sector}
use Rattle.handing.specs.Handing.{hand_answer, export_answer, import_answer, export_buffer, import_done, import_volume, import_pads}
use Rattle.handing.proofs.HandLaws.{hand_told}
use Rattle.handed.specs.Calls.{ExportsSectors, ExportRefused, ImportIsWrite, ImportRefusedFirst, ImportAnswers}

module _ (d : Drive) (v one two out : List ℕ) (h : accepts (export_answer d v one two (length out)) ≡ true) where
  pub export_stages : (accepts (hand_answer d v one two (length out)) ≡ true) × (accepts (read_answer d v 0 (length out)) ≡ true)
  unfolding export_answer
  export_stages = both_stages (hand_answer d v one two (length out)) _ h

  pub exported : export_buffer d v one two out ≡ encrypted_from one two 0 (read_buffer d v 0 out)
  unfolding export_buffer
  exported = yes _ h refl

  read_all : read_buffer d v 0 out ≡ tab (length out) (λ i. byte_of d v (0 + i))
  unfolding read_buffer
  read_all = yes _ export_stages.1 refl

  pub read-long : length (read_buffer d v 0 out) ≡ length out
  read-long = ap length read_all ∙ length-tab (length out) (λ i. byte_of d v (0 + i))

  read-part : (j : ℕ) → 512 * (j + 1) ≤ length out → part (512 * j) 512 (read_buffer d v 0 out) ≡ tab 512 (λ i. byte_of d v (512 * j + i))
  read-part j room =
      part-tab (512 * j) 512 (read_buffer d v 0 out) (omega (arith, room, read-long))
      ∙ tab_ext 512 (λ i. get_or (read_buffer d v 0 out) (512 * j + i) 0) (λ i. byte_of d v (512 * j + i)) (λ i l.
      let e : 0 + (512 * j + i) ≡ 512 * j + i = omega arith in
      ap (λ (x : List ℕ). get_or x (512 * j + i) 0) read_all ∙ get_or-tab (length out) (λ k. byte_of d v (0 + k)) (512 * j + i) 0 (omega (arith, room, l)) ∙ ap (byte_of d v) e)

  sector : (j : ℕ) → 512 * (j + 1) ≤ length out → part (512 * j) 512 (export_buffer d v one two out) ≡ xts_encrypted one two j (tab 512 (λ i. byte_of d v (512 * j + i)))
  sector j room =
      ap (λ (x : List ℕ). part (512 * j) 512 x) exported
      ∙ encrypted_sector one two j (read_buffer d v 0 out) (omega (arith, room, read-long))
      ∙ ap (xts_encrypted one two j) (read-part j room)

pub exports_sectors : ExportsSectors
exports_sectors d v one two out e j room = sector d v one two out (ap accepts e) j room

pub export-refused : ExportRefused
unfolding export_buffer
export-refused d v one two out h = no _ h refl

pub import_is_write : ImportIsWrite
unfolding import_done import_volume import_pads
import_is_write d v one two bytes e = let on = ap accepts e in (yes _ on refl, yes _ on refl, yes _ on refl)

pub import-refused-first : ImportRefusedFirst
unfolding import_done import_volume import_pads
import-refused-first d v one two bytes h = (no _ h refl, no _ h refl, no _ h refl)

pub import-answers : ImportAnswers
unfolding import_done import_answer write_done
import-answers d v one two bytes =
    let a = hand_answer d v one two (length bytes) in
    ⊎_elim
    (λ (on : accepts a ≡ true).
    ap (λ (x : Done). x.answer) (yes {A = Done} _ on refl)
    ∙ ap (λ (n : ℕ). write_answer d v 0 n) (length-decrypted one two 0 bytes (hand_told d v one two (length bytes) on).even)
    ∙ sym (goes_on a (write_answer d v 0 (length bytes)) on))
    (λ (off : accepts a ≡ false). ap (λ (x : Done). x.answer) (no {A = Done} _ off refl) ∙ sym (stops a (write_answer d v 0 (length bytes)) off))
    (told (accepts a))
