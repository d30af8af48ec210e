-- Document 01, the row of the head: "0-2 `NGT`; 3-4 version 1; 5 state (0 steady, 1 changing); 6-7 epoch; 8-11 N; 12-13 P;
-- 14-15 F; 16-31 salt; 32-39 counter; 40-71 old-secret check (zeros when steady); 72-103 seal". Document 02, Item 4: "Format and
-- the drive gain the version."; Item 8: the cipher is "kept in head byte 5 above the state: 16 for AES, 0 for ChaCha20".
use Prim.{tt}
use Rattle.std.specs.Prelude.{ℕ, ◌+◌, List, [], ◌∷◌, ◌++◌}
use Rattle.codec.specs.Row.{Field, number, string, Values, ◌&◌, row}
use Rattle.keys.specs.Keys.{check_of, seal_of}
use Rattle.drive.specs.declared.Drive.{Drive}
use Rattle.drive.specs.declared.State.{State}
use Rattle.drive.specs.declared.State.TheVariants.{Steady, Changing}
use Rattle.drive.specs.Drive.{zeros}

-- "`NGT`"
abbrev pub mark : List ℕ
mark = 78 ∷ 71 ∷ 84 ∷ []

abbrev pub state_byte : State → ℕ
state_byte Steady = 0
state_byte (Changing left) = 1

-- "in head byte 5 above the state"
abbrev pub kind_byte : Drive → ℕ
kind_byte d = state_byte d.state + d.cipher

-- mark, version, state and cipher, epoch, N, P, F
abbrev pub numbers_row : List Field
numbers_row = string 3 ∷ number 2 ∷ number 1 ∷ number 2 ∷ number 4 ∷ number 2 ∷ number 2 ∷ []

-- and salt, counter, old-secret check; the seal follows
abbrev pub front_row : List Field
front_row = numbers_row ++ (string 16 ∷ number 8 ∷ string 32 ∷ [])

-- bytes 0 to 15
unfoldable pub numbers_of : ℕ → ℕ → ℕ → ℕ → ℕ → ℕ → List ℕ
numbers_of version n p f kind epoch = row numbers_row (mark & version & kind & epoch & n & p & f & tt)

-- "old-secret check (zeros when steady)": the check that a state holds
abbrev pub check_for : State → List ℕ → List ℕ → ℕ → List ℕ
check_for Steady old salt epoch = zeros 32
check_for (Changing left) old salt epoch = check_of old salt epoch

abbrev pub check_in : Drive → List ℕ
check_in d = check_for d.state d.old d.salt d.epoch

-- bytes 0 to 71
abbrev pub front_values : Drive → Values front_row
front_values d = mark & d.version & kind_byte d & d.epoch & d.n & d.p & d.f & d.salt & d.counter & check_in d & tt

unfoldable pub front_in : Drive → List ℕ
front_in d = row front_row (front_values d)

-- the same from pieces made before
abbrev pub head_pieces : List Field
head_pieces = string 16 ∷ string 16 ∷ number 8 ∷ string 32 ∷ []

abbrev pub front_from : List ℕ → List ℕ → ℕ → List ℕ → List ℕ
front_from numbers salt counter check = row head_pieces (numbers & salt & counter & check & tt)

-- the 104 bytes that the drive makes
unfoldable pub head_of : Drive → List ℕ
head_of d = front_in d ++ seal_of d.present (front_in d) d.node
