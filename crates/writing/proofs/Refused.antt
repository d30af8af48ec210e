-- "A refusal stores nothing and returns the drive as given."; "Reads, reports, mounts and empty writes add nothing."
use mathlib.Core.Path.{◌≡◌, refl}
use mathlib.Core.Bool.{Bool, true, false}
use mathlib.Core.List.{List, []}
use Prim.Native.Nat.{ℕ}
use lib.ListN.{length}
use Rattle.base.specs.Pick.{both}
use Rattle.base.proofs.PickLaws.{no, both_off}
use Rattle.answers.specs.Numbers.{accepts}
use Rattle.drive.specs.declared.Drive.{Drive}
use Rattle.changes.specs.Write.{write_answer, writes, write_done, write_volume, write_pads}

-- drive and volume are as they came, and nothing is listed
pub record Kept (d : Drive) (v : List ℕ) (o : ℕ) (bytes : List ℕ) : Type 0 where
  pub drive : (write_done d v o bytes).drive ≡ d
  pub volume : write_volume d v o bytes ≡ v
  pub pads : write_pads d v o bytes ≡ []

kept : (d : Drive) (v : List ℕ) (o : ℕ) (bytes : List ℕ) → writes (write_answer d v o (length bytes)) bytes ≡ false → Kept d v o bytes
unfolding write_done write_volume write_pads
kept d v o bytes off = record { drive = no _ off refl; volume = no _ off refl; pads = no _ off refl }

pub write-refused : (d : Drive) (v : List ℕ) (o : ℕ) (bytes : List ℕ) → accepts (write_answer d v o (length bytes)) ≡ false → Kept d v o bytes
write-refused d v o bytes h = kept d v o bytes (both_off _ h)

pub write-empty : (d : Drive) (v : List ℕ) (o : ℕ) → Kept d v o []
write-empty d v o = kept d v o [] (none (accepts (write_answer d v o 0)))
  where
    none : (b : Bool) → both b false ≡ false
    none true = refl
    none false = refl
