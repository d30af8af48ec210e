-- Document 02, Item 12, for every drive, volume, keys and buffer. Each statement is proved, under the same name in small letters, in
-- proofs/Calls.antt.
use Rattle.std.specs.Prelude.{ℕ, ◌+◌, ◌*◌, ◌≤◌, ◌≡◌, false, List, [], length}
use Rattle.base.specs.Lists.{part, tab}
use Rattle.answers.specs.Answer as A
use Rattle.answers.specs.Numbers.{accepts}
use Rattle.drive.specs.declared.Drive.{Drive}
use Rattle.nuggets.specs.Nugget.{byte_of}
use Rattle.changes.specs.Write.{write_done, write_volume, write_pads}
use Rattle.xts.specs.Xts.{xts_encrypted}
use Rattle.handing.specs.Handing.{hand_answer, export_answer, import_answer, export_buffer, import_bytes, import_done, import_volume, import_pads}

-- "Write the contents into a second buffer as XTS-AES": sector j of the buffer is sector j of the contents under both keys.
abbrev pub ExportsSectors : Type 0
ExportsSectors =
    (d : Drive) (v one two out : List ℕ) → export_answer d v one two (length out) ≡ A.Accepted → (j : ℕ) → 512 * (j + 1) ≤ length out
    → part (512 * j) 512 (export_buffer d v one two out) ≡ xts_encrypted one two j (tab 512 (λ i. byte_of d v (512 * j + i)))

-- A refused export leaves the buffer to the byte.
abbrev pub ExportRefused : Type 0
ExportRefused = (d : Drive) (v one two out : List ℕ) → accepts (export_answer d v one two (length out)) ≡ false → export_buffer d v one two out ≡ out

-- "Import decrypts such a buffer and writes it whole at offset 0; it counts as that one write.": for the drive, the volume and the listing.
abbrev pub ImportIsWrite : Type 0
ImportIsWrite =
    (d : Drive) (v one two bytes : List ℕ) → hand_answer d v one two (length bytes) ≡ A.Accepted
    → (import_done d v one two bytes ≡ write_done d v 0 (import_bytes one two bytes))
    × (import_volume d v one two bytes ≡ write_volume d v 0 (import_bytes one two bytes))
    × (import_pads d v one two bytes ≡ write_pads d v 0 (import_bytes one two bytes))

-- 1, 2, 7 head, 2 and 10 before it leave all as it came, and list nothing.
abbrev pub ImportRefusedFirst : Type 0
ImportRefusedFirst =
    (d : Drive) (v one two bytes : List ℕ) → accepts (hand_answer d v one two (length bytes)) ≡ false
    → (import_done d v one two bytes ≡ record { answer = hand_answer d v one two (length bytes); drive = d })
    × (import_volume d v one two bytes ≡ v)
    × (import_pads d v one two bytes ≡ [])

-- What an import answers goes by the buffer's length alone: as the tests before the paths, "then as for a [..] write of the whole".
abbrev pub ImportAnswers : Type 0
ImportAnswers = (d : Drive) (v one two bytes : List ℕ) → (import_done d v one two bytes).answer ≡ import_answer d v one two (length bytes)
