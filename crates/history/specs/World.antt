-- What a history is made of: what the user holds after some calls, and the calls.
use Rattle.std.specs.Prelude.{ℕ, List}
use Rattle.records.specs.Listing.{Entry}
use Rattle.drive.specs.declared.Drive.{Drive}

-- what the user holds, and what the theorems keep beside it
pub record World : Type 0 where
  -- "each given the volume as last left and the drive as last returned"
  pub vol : List ℕ
  pub drive : Drive
  -- "mounting is given the right secrets and outside counter": those the user gave and was told, not those that the drive says
  pub secret : List ℕ
  pub old : List ℕ
  pub outside : ℕ
  -- "List every enciphering by nugget, keycount and flake."
  pub listing : List Entry
  -- "for each keycount rise, its nugget's flakes present just before": their number, so far
  pub retired : ℕ
  -- the byte last written at each offset, 0 where none was
  pub contents : ℕ → ℕ

-- a call that changes nothing
pub data Ask : Type 0 where
  -- offset and buffer
  read : ℕ → List ℕ → Ask
  report : Ask
  -- nugget and flake
  stored : ℕ → ℕ → Ask

-- "Make any calls after it": each with any arguments
pub data Call : Type 0 where
  -- what is brought as the old secret of a steady drive, where it is "unused"
  mount : List ℕ → Call
  -- offset and bytes
  write : ℕ → List ℕ → Call
  -- the new secret
  begin : List ℕ → Call
  -- the nugget
  sweep : ℕ → Call
  finish : Call
  -- the nugget, the first flake of the range, and how many
  discard : ℕ → ℕ → ℕ → Call
  asks : Ask → Call
