use Rattle.relaying.proofs.AnewLaws.{none-laid, piece_more, all_laid}
use Rattle.keys.specs.Pads.{under}
use Rattle.keys.specs.Tags.{tag_of}
use Rattle.relaying.specs.Flake.{anew}
use Prim.Native.Nat.{◌+◌, ◌-◌}
use native.Mathlib.Omega.{arith}
use mathlib.Core.Path.{◌≡◌, refl, ap, ◌∙◌}
use mathlib.Core.List.{List}
use lib.ListN.{length}
use Rattle.relaying.proofs.lay_anew.Goals as goal
use Rattle.relaying.proofs.lay_anew.Goals.{else-loop-at-test, then-loop-at-test+else-at-end-at-gt512}

pub loop-at-init : goal.loop-at-init
loop-at-init c =
    let a = c.args in
    (omega arith, refl, none-laid a.flake.nugget a.flake.lock a.flake.number a.flake.start a.written.now.offset a.written.now.bytes.now a.stored.now)

pub loop-at-preserved : goal.loop-at-preserved
loop-at-preserved c =
    let a = c.args in
    let l = c.loop-at in
    let n : c.min-end.result - l.at ≡ 512 = omega arith in (
      omega arith,
      omega (arith, l.invariant.1),
      rw n (piece_more a.flake.nugget a.flake.lock a.flake.number a.flake.start a.written.now.offset a.written.now.bytes.now a.stored.now l.at 512 (omega arith) l.invariant.2 (rw (n, ← c.requires) at c.lay_piece.ensures)),
    )

pub returns : goal.returns
returns c =
    let a = c.args in
    let l = c.loop-at in
    let all : c.loop-at-test.stored ≡ under a.flake.lock a.flake.number (length a.stored.now) (anew a.flake.nugget a.flake.number a.flake.start a.written.now.offset a.written.now.bytes.now a.stored.now) =
    elim c.loop-at-test.branch [
      | else-loop-at-test w ↦
          w.stored-is ∙ all_laid a.flake.nugget a.flake.lock a.flake.number a.flake.start a.written.now.offset a.written.now.bytes.now a.stored.now l.at l.invariant.2 (omega arith)
      | then-loop-at-test+else-at-end-at-gt512 w ↦
          let n = w.min-end.result - l.at in
          w.stored-is
          ∙ all_laid a.flake.nugget a.flake.lock a.flake.number a.flake.start a.written.now.offset a.written.now.bytes.now a.stored.now (l.at + n) (piece_more a.flake.nugget a.flake.lock a.flake.number a.flake.start a.written.now.offset a.written.now.bytes.now a.stored.now l.at n (omega arith) l.invariant.2 (rw (← c.requires) at w.lay_piece.ensures)) (omega arith)
    ] in
    (c.tag_of.ensures ∙ ap (λ (x : List _). tag_of a.flake.lock a.flake.number x) all, all)
