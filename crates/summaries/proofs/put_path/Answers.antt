use Rattle.std.proofs.Common.{◌≡◌, ℕ, ◌+◌, ◌-◌, ◌/◌, ◌<◌, List, ap, ◌∙◌, arith}
use Rattle.heaps.specs.Paths.{stored_up}
use Rattle.heaps.proofs.PathLaws.{rises-some, rises_next}
use Rattle.heaps.proofs.Steps.{stored_up-on, stored_up_end}
use Rattle.layout.proofs.Limits.{limits, lent_small}
use Rattle.tree.proofs.Heights.{height-few}
use Rattle.summaries.specs.Entries.{put_entry}
use Rattle.summaries.proofs.Starts.{path-starts}
use Rattle.summaries.proofs.put_path.Goals as goal

pub overflow_add-above-end : goal.overflow_add-above-end
overflow_add-above-end c = omega (arith, c.height_of-above-end.ensures, height-few (limits c.args.s c.requires.0.limited))

pub overflow_cast-i : goal.overflow_cast-i
overflow_cast-i c = omega (arith, c.leaves_of.ensures, (lent_small c.requires.0).few_leaves)

pub overflow_add-i : goal.overflow_add-i
overflow_add-i c = omega (arith, c.leaves_of.ensures, (lent_small c.requires.0).few_leaves, c.requires.2, (lent_small c.requires.0).few_nuggets)

pub loop-above-init : goal.loop-above-init
loop-above-init c =
    let a = c.args in
    let p = c.requires in
    path-starts a.s a.epoch a.vol.now a.sum.now a.n (lent_small p.0) p.2 (omega (arith, c.height_of-above-end.ensures)) (omega (arith, c.leaves_of.ensures))

pub put-requires : goal.put-requires
put-requires c =
    let l = c.loop-above in
    (c.requires.0, l.invariant.2 ∙ c.requires.1, rises-some _ _ l.invariant.0 (omega (arith, c.loop-above-test.true)), l.invariant.1)

pub loop-above-preserved : goal.loop-above-preserved
loop-above-preserved c =
    let a = c.args in
    let l = c.loop-above in
    let p = c.put in
    let k = c.height_of-above-end.result + 1 - l._above in
    let h : 0 < k = omega (arith, c.loop-above-test.true) in
    let e : c.height_of-above-end.result + 1 - (l._above + 1) ≡ k - 1 = omega arith in rw e (
      rises_next _ _ l.invariant.0 h,
      omega (arith, l.invariant.1),
      p.auto.sum ∙ l.invariant.2,
      ap (λ (w : List ℕ). stored_up (put_entry a.s a.epoch a.vol.now) (k - 1) (l.i / 2) w) p.ensures
          ∙ stored_up-on (put_entry a.s a.epoch a.vol.now) l.sum k l.i h ∙ l.invariant.3,
    )

pub returns : goal.returns
returns c = stored_up_end _ _ _ _ (omega (arith, c.loop-above-test.false)) ∙ c.loop-above.invariant.3
