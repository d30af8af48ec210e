-- Demand 3: "List every enciphering by nugget, keycount and flake."
use Rattle.std.specs.Prelude.{ℕ, zero, suc, Bool, List, [], ◌∷◌, ◌++◌}
use Rattle.base.specs.Pick.{pick}
use Rattle.records.specs.declared.Record.{Record}
use Rattle.records.specs.declared.Way.{Way}
use Rattle.records.specs.Journal.{bit}
use Rattle.records.specs.Rule.{enciphered, keycount_after}

-- one enciphering, with the 32 bytes of the secret that was used
pub record Entry : Type 0 where
  pub nugget : ℕ
  pub keycount : ℕ
  pub flake : ℕ
  pub secret : List ℕ

abbrev pub entry : ℕ → ℕ → ℕ → List ℕ → Entry
entry n k f s = record { nugget = n; keycount = k; flake = f; secret = s }

-- the entries of one nugget at one keycount: the flakes below P in the set, ascending
unfoldable pub pads_of : ℕ → ℕ → List ℕ → (ℕ → Bool) → ℕ → List Entry
pads_of n k s g zero = []
pads_of n k s g (suc p) = pads_of n k s g p ++ pick (g p) (entry n k p s ∷ []) []

-- what a way lists: the flakes it enciphers, under the keycount after it
unfoldable pub pads_by : ℕ → Way → ℕ → Record → List ℕ → List Entry
pads_by p way n r s = pads_of n (keycount_after way r) s (bit (enciphered way r)) p

-- the encipherings of a call: of the nuggets below n, ascending, each in its way
unfoldable pub pads_to : ℕ → (ℕ → Way) → (ℕ → Record) → List ℕ → ℕ → List Entry
pads_to p way records s zero = []
pads_to p way records s (suc n) = pads_to p way records s n ++ pads_by p (way n) n (records n) s
