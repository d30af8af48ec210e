use mathlib.Core.Path.{◌≡◌, sym}
use Prim.Native.Nat.{◌+◌}
use native.Mathlib.Omega.{arith}
use Rattle.records.specs.Journal.{flakes_from}
use Rattle.records.proofs.MaskLaws.{from_empty, from_all, from-rest}
use Rattle.records.proofs.range.Goals as goal

-- the flakes from the first on are what is left of those up to the last
rest : (c : goal.After-all-then-last-lt64) → flakes_from c.args.first c.args.last + c.all-then-last-lt64.result ≡ c.all.result
rest c = let a = c.args in from_all a.first a.last c.all-then-last-lt64.ensures c.all.ensures c.if-last-first.false

rest-2 : (c : goal.After-all-else-last-lt64-2) → flakes_from c.args.first c.args.last + c.all-else-last-lt64-2.result ≡ c.all-else-last-lt64.result
rest-2 c = let a = c.args in from-rest a.first a.last c.all-else-last-lt64-2.ensures c.all-else-last-lt64.ensures c.if-last-first.false c.if-last-lt64.false

pub returns-then-last-first : goal.returns-then-last-first
returns-then-last-first c = sym (from_empty c.args.first c.args.last c.if-last-first.true)

pub overflow_sub-result : goal.overflow_sub-result
overflow_sub-result c = omega (arith, rest c)

pub overflow_sub-result-else-last-lt64 : goal.overflow_sub-result-else-last-lt64
overflow_sub-result-else-last-lt64 c = omega (arith, rest-2 c)

pub returns-then-last-lt64 : goal.returns-then-last-lt64
returns-then-last-lt64 c = omega (arith, rest c)

pub returns-else-last-lt64 : goal.returns-else-last-lt64
returns-else-last-lt64 c = omega (arith, rest-2 c)
