-- "that no second outcome satisfies the same words is itself proved"
use Rattle.std.specs.Prelude.{◌≡◌}
use contract.Lifetimes.{Lfts}
use denote.Triple.Entry.{Args, Res}
use denote.Triple.Clauses.{Ended, Lasts, AtExit, at_exit}

-- what a function's own `ensures` says of its inputs, its result and its parameters at exit
abbrev pub Promise : Ended → Type 1
Promise T = (κs : Lfts T.signature.lifetimes) → Args T.signature κs → Res T.signature κs → AtExit T κs → Type 0

-- on the same inputs what `shown` shows of the result, and the last value of all that is lent to be changed, are determined
abbrev pub OneSeen : (T : Ended) (S : Lfts T.signature.lifetimes → Type 0) → ((κs : Lfts T.signature.lifetimes) → Res T.signature κs → S κs)
    → Promise T → Type 0
OneSeen T S shown Post = (κs : Lfts T.signature.lifetimes) (a : Args T.signature κs) (x y : Res T.signature κs) (u v : Lasts T κs a)
    → Post κs a x (at_exit T κs a u) → Post κs a y (at_exit T κs a v) → (shown κs x ≡ shown κs y) × (u ≡ v)

-- the same of the whole result
abbrev pub OneOutcome : (T : Ended) → Promise T → Type 0
OneOutcome T = OneSeen T (Res T.signature) (λ κs r. r)
