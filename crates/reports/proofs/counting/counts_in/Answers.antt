use Rattle.layout.proofs.Limits.{lent_small}
use Rattle.reports.proofs.CountLaws.{counts-none, counts_more, counts_fit}
use native.Mathlib.Omega.{arith}
use mathlib.Core.Path.{refl}
use Rattle.reports.proofs.counting.counts_in.Goals as goal

pub loop-i-init : goal.loop-i-init
loop-i-init c = counts-none c.args.s 64 c.args.epoch c.args.vol.now c.default-c.ensures

pub overflow_add-c : goal.overflow_add-c
overflow_add-c c =
    omega (arith, (counts_fit c.args.s c.args.epoch c.args.vol.now c.loop-i.i c.read.result (omega (arith, (lent_small c.requires).few_nuggets)) c.loop-i.invariant c.count_of-one.ensures).0)

pub overflow_add-c-in-loop-i : goal.overflow_add-c-in-loop-i
overflow_add-c-in-loop-i c =
    omega (arith, (counts_fit c.args.s c.args.epoch c.args.vol.now c.loop-i.i c.read.result (omega (arith, (lent_small c.requires).few_nuggets)) c.loop-i.invariant c.count_of-one.ensures).1)

pub overflow_add-c-in-loop-i-2 : goal.overflow_add-c-in-loop-i-2
overflow_add-c-in-loop-i-2 c =
    omega (arith, (counts_fit c.args.s c.args.epoch c.args.vol.now c.loop-i.i c.read.result (omega (arith, (lent_small c.requires).few_nuggets)) c.loop-i.invariant c.count_of-one.ensures).2)

pub loop-i-preserved : goal.loop-i-preserved
loop-i-preserved c =
    let a = c.args in
    counts_more a.s 64 a.epoch a.vol.now c.loop-i.i c.loop-i.invariant c.read.ensures c.count_of-one.ensures refl
