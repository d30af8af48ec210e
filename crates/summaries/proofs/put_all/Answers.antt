use Rattle.std.proofs.Common.{ℕ, ◌-◌, List, refl, ap, ◌∙◌, arith}
use Rattle.heaps.specs.Paths.{stored_down}
use Rattle.heaps.proofs.Steps.{stored_down-on, stored_down_end}
use Rattle.layout.proofs.Limits.{lent_small}
use Rattle.summaries.specs.Entries.{put_entry, built}
use Rattle.summaries.proofs.put_all.Goals as goal

pub overflow_cast-i : goal.overflow_cast-i
overflow_cast-i c = omega (arith, c.leaves_of.ensures, (lent_small c.requires.0).few_leaves)

pub overflow_step-i : goal.overflow_step-i
overflow_step-i c = omega (arith, c.leaves_of.ensures, (lent_small c.requires.0).few_leaves)

pub loop-i-init : goal.loop-i-init
unfolding built
loop-i-init c =
    let a = c.args in
    (refl, ap (λ (k : ℕ). stored_down (put_entry a.s a.epoch a.vol.now) k a.sum.now) (omega (arith, c.leaves_of.ensures)))

pub loop-i-preserved : goal.loop-i-preserved
loop-i-preserved c =
    let a = c.args in
    let l = c.loop-i in
    let p = c.put in (
      p.auto.sum ∙ l.invariant.0,
      ap (λ (w : List ℕ). stored_down (put_entry a.s a.epoch a.vol.now) (l.i - 1 - 1) w) p.ensures
          ∙ stored_down-on (put_entry a.s a.epoch a.vol.now) l.sum (l.i - 1) (omega (arith, c.loop-i-test.true)) ∙ l.invariant.1,
    )

pub returns : goal.returns
returns c = stored_down_end _ _ (c.loop-i.i - 1) (omega (arith, c.loop-i-test.false)) ∙ c.loop-i.invariant.1
