use Rattle.std.proofs.Common.{◌≡◌, ℕ, ◌+◌, ◌-◌, List, [], ◌∷◌, length, length-append, min, add-zero, refl, ap, sym, ◌∙◌, arith}
use Rattle.std.proofs.lemmas.Bool.{eqb-true}
use lib.Seq.{sets}
use Rattle.base.specs.Lists.{fold}
use Rattle.blake2s.proofs.StreamLaws.{state_of, opened, turn}
use Rattle.blake2s.proofs.absorb.Goals as goal
use Rattle.blake2s.proofs.absorb.Goals.{then-not-is_empty, else-not-is_empty}

no_bytes : (l : List ℕ) → length l ≡ 0 → l ≡ []
no_bytes [] e = refl
no_bytes (x ∷ l) e = absurd (omega arith)

-- the buffer and its fill where the arms of the test meet
laid : (c : goal.After-into_iter-block-iterator)
    → (c.if-not-is_empty.buffer ≡ sets c.args.s.buffer c.args.s.fill c.split_at.result.0.now)
    × (c.if-not-is_empty.fill ≡ c.args.s.fill + length c.split_at.result.0.now)
laid c =
    elim c.if-not-is_empty.branch [
      | then-not-is_empty w ↦ (w.buffer-is ∙ w.copy.ensures, w.fill-is)
      | else-not-is_empty w ↦
          let e : c.split_at.result.0.now ≡ [] = no_bytes _ (eqb-true _ 0 (sym w.if-not-is_empty.ensures)) in
          rw e (w.buffer-is, w.fill-is ∙ sym (add-zero c.args.s.fill))
    ]

pub loop-block-init : goal.loop-block-init
loop-block-init c =
    let s = c.args.s in
    let m = c.args.m.now in
    let size : c.into_iter-block-iterator.result.size ≡ 64 = cc in
    let left : c.into_iter-block-iterator.result.rest.now ≡ c.split_at.result.1.now = cc in
    let n : c.min.result ≡ min (length m) (64 - s.fill) = cc in
    let o = opened s m _ _ _ _ _ n c.split_at.ensures.front c.split_at.ensures.back (laid c).0 (laid c).1 in
    record { by_blocks = size; full = rw left o.1; to_do = rw left o.0 }

pub loop-block-preserved : goal.loop-block-preserved
loop-block-preserved c =
    let s = c.loop-block in
    let step = c.in-Some.ensures.steps in
    record {
      by_blocks = step.0 ∙ s.invariant.by_blocks;
      full = λ h. omega (arith, s.invariant.by_blocks, step.1.1, ap (length {A = ℕ}) step.1.0, length-append {A = ℕ});
      to_do = turn (state_of s.chain s.buffer s.fill s.count) _ _ _ c.in-Some.block.now _ _ (s.invariant.full step.1.2) refl c.compress-next.ensures c.copy-in-loop-block.ensures step.1.0 step.1.2 (omega (arith, s.invariant.by_blocks, step.1.1)) ∙ s.invariant.to_do;
    }

pub returns : goal.returns
unfolding fold
returns c =
    let s = c.loop-block in
    let e = no_bytes _ c.in-None.ensures.steps.1.0 in
    rw e at s.invariant.to_do
