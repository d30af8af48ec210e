-- Document 02, Item 12: "Handing a drive to dm-crypt, and back." The first key enciphers sectors, the second tweaks.
use Rattle.std.specs.Prelude.{ℕ, ◌%◌, Bool, List, [], eqb, length}
use Rattle.base.specs.Pick.{pick, both}
use Rattle.base.specs.Lists.{same}
use Rattle.layout.specs.declared.Shape.{Shape}
use Rattle.layout.specs.Shape.{within}
use Rattle.layout.specs.Spots.{capacity}
use Rattle.answers.specs.Answer.{Answer}
use Rattle.answers.specs.Answer as A
use Rattle.answers.specs.Numbers.{accepts}
use Rattle.answers.specs.Stages.{and_then}
use Rattle.records.specs.Listing.{Entry}
use Rattle.drive.specs.declared.Drive.{Drive}
use Rattle.drive.specs.declared.Done.{Done}
use Rattle.drive.specs.Drive.{shape_of}
use Rattle.drive.specs.Opening.{opening_of}
use Rattle.reading.specs.Read.{read_answer, read_buffer}
use Rattle.changes.specs.Write.{write_answer, write_done, write_volume, write_pads}
use Rattle.sectors.specs.Sectors.{encrypted_from, decrypted_from}

-- "2 if N P F isn't a multiple of 512 or the buffer isn't N P F long"
unfoldable pub in_sectors : Shape → ℕ → Bool
in_sectors s len = let whole = within s (capacity s) in both (eqb (whole % 512) 0) (eqb len whole)

-- "then 10 if the two XTS keys are equal"
abbrev pub keys_answer : Bool → Bool → Answer
keys_answer fits twice = pick fits (pick twice A.SameSecret A.Accepted) A.Length

-- "Refusals: after 7 head", those two
unfoldable pub hand_answer : Drive → List ℕ → List ℕ → List ℕ → ℕ → Answer
hand_answer d v one two len = and_then (opening_of d v) (keys_answer (in_sectors (shape_of d) len) (same one two))

-- "then as for a read or write of the whole"
unfoldable pub export_answer : Drive → List ℕ → List ℕ → List ℕ → ℕ → Answer
export_answer d v one two len = and_then (hand_answer d v one two len) (read_answer d v 0 len)

unfoldable pub import_answer : Drive → List ℕ → List ℕ → List ℕ → ℕ → Answer
import_answer d v one two len = and_then (hand_answer d v one two len) (write_answer d v 0 len)

-- "Write the contents into a second buffer as XTS-AES with two 256-bit keys"; a refusal stores nothing
unfoldable pub export_buffer : Drive → List ℕ → List ℕ → List ℕ → List ℕ → List ℕ
export_buffer d v one two out =
    pick (accepts (export_answer d v one two (length out))) (encrypted_from one two 0 (read_buffer d v 0 out)) out

-- "Import decrypts such a buffer and writes it whole at offset 0; it counts as that one write.": what is written
abbrev pub import_bytes : List ℕ → List ℕ → List ℕ → List ℕ
import_bytes one two bytes = decrypted_from one two 0 bytes

-- what is handed back, what the volume holds, and what is listed: the write's, or nothing before its turn comes
unfoldable pub import_done : Drive → List ℕ → List ℕ → List ℕ → List ℕ → Done
import_done d v one two bytes =
    let a = hand_answer d v one two (length bytes) in
    pick (accepts a) (write_done d v 0 (import_bytes one two bytes)) (record { answer = a; drive = d })

unfoldable pub import_volume : Drive → List ℕ → List ℕ → List ℕ → List ℕ → List ℕ
import_volume d v one two bytes =
    pick (accepts (hand_answer d v one two (length bytes))) (write_volume d v 0 (import_bytes one two bytes)) v

unfoldable pub import_pads : Drive → List ℕ → List ℕ → List ℕ → List ℕ → List Entry
import_pads d v one two bytes =
    pick (accepts (hand_answer d v one two (length bytes))) (write_pads d v 0 (import_bytes one two bytes)) []
