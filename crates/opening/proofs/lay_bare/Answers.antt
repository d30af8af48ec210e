use Rattle.opening.proofs.FormatLaws.{fresh_on, fresh_end}
use Rattle.opening.specs.Format.{fresh_from, bare}
use mathlib.Core.List.{List}
use Rattle.drive.specs.Drive.{zeros}
use Prim.Native.Nat.{ℕ, ◌+◌, ◌-◌}
use mathlib.Core.Path.{sym, ◌∙◌, ap}
use Rattle.opening.proofs.lay_bare.Goals as goal

pub loop-n-preserved : goal.loop-n-preserved
loop-n-preserved c =
    let l = c.loop-n in
    let s = c.args.s in (
      c.store.auto.vol ∙ l.invariant.0,
      ap (λ (w : List ℕ). fresh_from s (s.n - (l.n + 1)) (l.n + 1) w) c.store.ensures ∙ fresh_on s l.vol l.n s.n c.loop-n-test.true ∙ l.invariant.1,
    )

pub returns : goal.returns
unfolding bare
returns c =
    let s = c.args.s in
    sym (fresh_end _ _ _ _ c.loop-n-test.false) ∙ c.loop-n.invariant.1 ∙ ap (λ (z : List ℕ). fresh_from s s.n 0 z) (c.clear.ensures ∙ ap (λ (k : ℕ). zeros k) c.requires.size)
