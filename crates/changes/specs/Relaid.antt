-- "A flake that the write doesn't touch is to be re-enciphered by laying old and new pad over the stored bytes together."
use Rattle.std.specs.Prelude.{ℕ, List}
use Rattle.words.specs.Xor.{xorl}
use Rattle.records.specs.declared.Way.{Way}
use Rattle.records.specs.Record.{record_of}
use Rattle.records.specs.Rule.{keycount_after}
use Rattle.keys.specs.Pads.{pad_of}
use Rattle.drive.specs.declared.Drive.{Drive}
use Rattle.drive.specs.Drive.{shape_of}
use Rattle.nuggets.specs.Nugget.{lock_by, lock_for, stored_in}

-- the stored bytes of flake f of nugget n, with the pad that it lies under and the pad that the way lays, together over them
abbrev pub relaid_under : Drive → List ℕ → Way → ℕ → ℕ → List ℕ
relaid_under d v way n f =
    let s = shape_of d in
    let next = lock_by s d.salt d.present n (keycount_after way (record_of s v n)) in
    xorl (stored_in s v n f) (xorl (pad_of (lock_for d v n) f d.f) (pad_of next f d.f))
