use Rattle.ngt.proofs.CallLaws.{tells-by}
use Rattle.reading.specs.Read.{read_answer, read_buffer}
use lib.ListN.{length}
use Rattle.drive.specs.declared.Drive.{Drive}
use mathlib.Core.Path.{◌∙◌, ap}
use Rattle.ngt.proofs.ngt_read.Goals as goal

pub returns : goal.returns
returns c =
    let a = c.args in
    record {
      tells = tells-by (c.read-a.ensures.0 ∙ ap (λ (d : Drive). read_answer d a.vol.now a.offset (length a.buf.now)) c.opened.ensures) c.told.ensures.told c.told.ensures.shown;
      bytes = c.read-a.ensures.1 ∙ ap (λ (d : Drive). read_buffer d a.vol.now a.offset a.buf.now) c.opened.ensures;
    }
