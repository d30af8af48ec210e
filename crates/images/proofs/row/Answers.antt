use Rattle.std.proofs.Common.{◌≡◌, ℕ, ◌+◌, ◌*◌, List, length, get_or, drop, ap, refl, ◌∙◌, arith}
use Rattle.words.specs.Le.{le, serialised}
use Rattle.words.proofs.SerialLaws.{serial_more, serial_all}
use lib.ListN.{length-replicate}
use lib.Seq.{sets, length-sets}
use Rattle.images.proofs.row.Goals as goal

pub loop-i-init : goal.loop-i-init
loop-i-init g c = (refl, refl)

pub loop-i-preserved : goal.loop-i-preserved
loop-i-preserved g c =
    let s = c.loop-i in
    let h = c.args.xs.now in
    let e : c.store32.new.s ≡ sets s.out (4 * s.i) (le 4 (get_or h s.i 0)) = c.store32.ensures in
    (ap length e ∙ length-sets s.out (4 * s.i) (le 4 (get_or h s.i 0)) ∙ s.invariant.0, ap (λ (z : List ℕ). sets z (4 * (s.i + 1)) (serialised (drop (s.i + 1) h))) e ∙ serial_more h s.out s.i (omega arith) ∙ s.invariant.1)

pub returns : goal.returns
returns g c =
    let s = c.loop-i in
    serial_all c.args.xs.now s.out _ s.i s.invariant.1 c.loop-i-test.false (length-replicate {A = ℕ} g.row.N 0 ∙ c.requires)
