use Rattle.std.proofs.Common.{rules, arith, sym, ◌∙◌, ap}
use borrow.Author.Tests.{tests}
use lib.Dec.{eqb}
use lib.Seq.{length-take-le}
use denote.Param.Always.{mut_total}
use Rattle.std.specs.Slice.Iter.{split_inclusive_rest}
use Rattle.std.proofs.lemmas.Fn.{always_returns_same}
use Rattle.fleets.proofs.PieceLaws.{unended_le, piece_some, piece_line, piece_rest, piece_end}
use Rattle.fleets.proofs.GatherLaws.{gather-starts, gather-turn, gather_stops, gather-ends, goes_keeps, handed}
use Rattle.fleets.proofs.gather.Goals as goal

pub loop-line-init : goal.loop-line-init
loop-line-init c =
    let rest = ap (λ i. split_inclusive_rest i) c.into_iter-line-iterator.ensures.into_iter_gives ∙ c.split_inclusive-line-items.ensures.rest in
    let s = gather-starts c.args.input.now rest c.nobody-fleet.ensures in
    (mut_total _ _ (λ s a. tt), search rules, s.0, s.1, s.2)

pub unended-end-requires : goal.unended-end-requires
unended-end-requires c =
    let s = c.in-Some.ensures.steps in
    piece_some _ _ s.1.0 s.1.1 s.2

pub slice_bounds-with_line-end : goal.slice_bounds-with_line-end
slice_bounds-with_line-end c = sym (length-take-le _ _ (unended_le c.in-Some.line.now c.unended-end.ensures))

pub with_line-requires : goal.with_line-requires
with_line-requires c = (c.loop-line.invariant.2, c.loop-line.invariant.3)

pub returns-in_err-fleet : goal.returns-in_err-fleet
returns-in_err-fleet c =
    let t = c.loop-line in
    let s = c.in-Some.ensures.steps in
    let first = (s.1.2 (λ b. eqb b 10) (always_returns_same _ _ _ (λ a r f k. (search (rules, tests), search rules)))).1 in
    let line = piece_end _ _ _ s.1.0 s.0 s.1.1 first s.2 c.unended-end.ensures ∙ piece_line _ _ _ s.1.0 s.0 s.1.1 first in
    handed _ _ c.from_residual.ensures.1 ∙ gather_stops t.fleet _ _ _ s.2 line (sym c.with_line.ensures ∙ c.in_err-fleet.was) t.invariant.4

pub loop-line-preserved : goal.loop-line-preserved
loop-line-preserved c =
    let t = c.loop-line in
    let s = c.in-Some.ensures.steps in
    let first = (s.1.2 (λ b. eqb b 10) (always_returns_same _ _ _ (λ a r f k. (search (rules, tests), search rules)))).1 in
    let line = piece_end _ _ _ s.1.0 s.0 s.1.1 first s.2 c.unended-end.ensures ∙ piece_line _ _ _ s.1.0 s.0 s.1.1 first in
    let w = sym c.with_line.ensures ∙ c.in_ok-fleet.was in
    let k = goes_keeps t.fleet _ _ w t.invariant.3 in
    (search rules, search rules, k.0, k.1, gather-turn t.fleet _ _ _ _ s.2 line w (piece_rest _ _ _ s.1.0 s.0 s.1.1 first) t.invariant.4)

pub returns : goal.returns
returns c = gather-ends c.loop-line.fleet _ c.in-None.ensures.steps.0 c.loop-line.invariant.4
