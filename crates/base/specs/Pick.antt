-- A choice by a test.
use Rattle.std.specs.Prelude.{Bool, true, false}

abbrev pub pick : {A : Type 0} → Bool → A → A → A
pick true a b = a
pick false a b = b

-- at least one of the tests holds
abbrev pub either : Bool → Bool → Bool
either true b = true
either false b = b

-- both tests hold
abbrev pub both : Bool → Bool → Bool
both true b = b
both false b = false
