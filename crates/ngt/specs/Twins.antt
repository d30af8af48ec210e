-- Two volumes compared: "length: 4 bytes, 0 if nothing; one and two: stored in their first length bytes only if found".
use Rattle.std.specs.Prelude.{◌≡◌, List, ℕ}
use Rattle.std.proofs.lemmas.List.Edits.{sets}
use Rattle.words.specs.Le.{le}
use Rattle.drive.specs.declared.Drive.{Drive}
use Rattle.twins.specs.Twins.{twin_in, twins_of}
use Rattle.ngt.specs.Calls.{Tells}

pub record Compared (d : Drive) (v w : List ℕ) (n : ℕ) (given-one given-two : List ℕ) (number : ℕ) (one two long answer : List ℕ) : Type 0 where
  pub tells : Tells (twins_of d v w n).answer number answer
  pub first : one ≡ sets given-one 0 (twin_in d v w n v)
  pub second : two ≡ sets given-two 0 (twin_in d v w n w)
  pub length : long ≡ le 4 (twins_of d v w n).length
