use mathlib.Core.Path.{sym, ◌∙◌}
use Rattle.base.proofs.PickLaws.{clash}
use Rattle.records.specs.Record.{well_formed}
use Rattle.records.proofs.well_formed.Goals as goal
use Rattle.records.proofs.well_formed.Goals.{then-none_from, else-none_from, then-lies_in, else-lies_in}

pub returns-then-epoch_fits : goal.returns-then-epoch_fits
unfolding well_formed
returns-then-epoch_fits c =
    elim c.if-lies_in.branch [
      | then-lies_in w ↦
          elim c.if-none_from.branch [
            | then-none_from u ↦
                rw (
                  sym c.none_from.ensures ∙ u.if-none_from.true,
                  sym u.lies_in.ensures ∙ sym u.value-is ∙ w.if-lies_in.true,
                  sym w.epoch_fits.ensures ∙ sym w.value-is ∙ c.if-epoch_fits.true,
                ) c.not_above.ensures
            | else-none_from u ↦ absurd (clash w.if-lies_in.true (u.value-is ∙ u.if-none_from.false))
          ]
      | else-lies_in w ↦ absurd (clash c.if-epoch_fits.true (w.value-is ∙ w.if-lies_in.false))
    ]

pub returns-else-epoch_fits : goal.returns-else-epoch_fits
unfolding well_formed
returns-else-epoch_fits c =
    c.if-epoch_fits.false
    ∙ elim c.if-lies_in.branch [
      | then-lies_in w ↦
          elim c.if-none_from.branch [
            | then-none_from u ↦
                rw (
                  sym c.none_from.ensures ∙ u.if-none_from.true,
                  sym u.lies_in.ensures ∙ sym u.value-is ∙ w.if-lies_in.true,
                  sym w.epoch_fits.ensures ∙ sym w.value-is ∙ c.if-epoch_fits.false,
                )
            | else-none_from u ↦ absurd (clash w.if-lies_in.true (u.value-is ∙ u.if-none_from.false))
          ]
      | else-lies_in w ↦
          elim c.if-none_from.branch [
            | then-none_from u ↦ rw (sym c.none_from.ensures ∙ u.if-none_from.true, sym u.lies_in.ensures ∙ sym u.value-is ∙ w.if-lies_in.false)
            | else-none_from u ↦ rw (sym c.none_from.ensures ∙ u.if-none_from.false)
          ]
    ]
