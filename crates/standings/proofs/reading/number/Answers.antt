use Rattle.std.proofs.Common.{rules, ◌≡◌, ◌+◌, ◌-◌, ◌*◌, refl}
use Rattle.std.proofs.lemmas.Fn.{fold_over, fronts, slice_gives}
use Rattle.line.specs.Reading.{decimal_value, value_from}
use Rattle.standings.specs.Standing.{at_most}
use Rattle.standings.proofs.ReadingLaws.{number_more}
use Rattle.standings.proofs.reading.number.Goals as goal

pub returns : goal.returns
unfolding value_from
returns c =
    let s = c.iter.result in
    rw c.iter.ensures.rest at
    (fold_over fronts (λ y. y.now) _ (λ l a. a ≡ at_most (decimal_value l)) _ (λ ys a x b f h k. let e : b ≡ at_most (a * 10 + (x.now - 48)) = search rules in (number_more ys x.now h e, search rules)) s s.rest.now 0 c.fold.result (slice_gives s) refl c.fold.ensures.ran)
