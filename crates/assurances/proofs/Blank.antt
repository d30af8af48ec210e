-- What a refused mount's drive answers, and what a stored flake shows.
use mathlib.Core.Path.{◌≡◌, refl, ap, ◌∙◌}
use mathlib.Core.Bool.{true}
use Rattle.base.proofs.PickLaws.{clash}
use Rattle.answers.specs.Answer as A
use Rattle.answers.specs.Stages.{and_then}
use Rattle.drive.specs.declared.Drive.{Drive}
use Rattle.drive.specs.Opening.{opening_of}
use Rattle.drive.proofs.OpeningLaws.{blank-measure, blank_limits}
use Rattle.reading.specs.Read.{read_answer}
use Rattle.reports.specs.Report.{report_answer}
use Rattle.reports.specs.Stored.{stored_answer}
use Rattle.reports.proofs.Exact.{stored-shown}
use Rattle.changes.specs.Write.{write_answer}
use Rattle.changes.specs.Rekey.{begin_answer, sweep_answer, finish_answer}
use Rattle.changes.specs.Discard.{discard_answer}
use Rattle.history.specs.World.{Call, mount, write, begin, sweep, finish, discard, asks, read, report, stored}
use Rattle.history.specs.Step.{answer_to}
use Rattle.assurances.specs.Example.{takes_drive, BlankRefused, StoredShows}

pub blank-refused : BlankRefused
unfolding read_answer write_answer begin_answer sweep_answer finish_answer discard_answer report_answer stored_answer and_then
blank-refused w c e h = go c h
  where
    shut : opening_of w.drive w.vol ≡ A.Limits
    shut = ap (λ (d : Drive). opening_of d w.vol) e ∙ blank_limits w.vol

    go : (c : Call) → takes_drive c ≡ true → answer_to w c ≡ A.Limits
    go (mount any) q = absurd (clash q refl)
    go (write o bytes) q = rw shut refl
    go (begin secret) q = rw shut refl
    go (sweep n) q = rw shut refl
    go finish q = rw shut refl
    go (discard n first count) q = rw shut refl
    go (asks (read o buffer)) q = rw shut refl
    go (asks report) q = rw shut refl
    go (asks (stored n f)) q = rw (e, blank-measure w.vol) refl

pub stored_shows : StoredShows
stored_shows w n f e = stored-shown w.drive w.vol n f e
