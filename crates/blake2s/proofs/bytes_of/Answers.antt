use Rattle.std.proofs.Common.{◌≡◌, ℕ, ◌+◌, ◌*◌, List, length, drop, sym, ap, ◌∙◌, arith, rules}
use Rattle.words.specs.Le.{serialised}
use lib.Seq.{sets}
use Rattle.blake2s.proofs.ByteLaws.{store_more, store-all}
use Rattle.blake2s.proofs.bytes_of.Goals as goal

pub loop-i-preserved : goal.loop-i-preserved
loop-i-preserved c =
    let s = c.loop-i in
    let h = c.args.h in
    (c.store32.auto.s ∙ s.invariant.0, ap (λ (z : List ℕ). sets z (4 * (s.i + 1)) (serialised (drop (s.i + 1) h))) c.store32.ensures ∙ store_more h s.r s.i (omega arith) ∙ s.invariant.1)

pub returns : goal.returns
returns c =
    let s = c.loop-i in
    let h = c.args.h in
    let long : length h ≡ 8 = search rules in
    store-all h s.r _ s.i s.invariant.1 (omega arith) (sym (ap (λ (z : ℕ). 4 * z) long))
