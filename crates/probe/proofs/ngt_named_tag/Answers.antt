use Rattle.probe.proofs.ngt_named_tag.Goals as goal

pub returns : goal.returns
returns c = rw (c.name_of-name.ensures, c.lock_with.ensures) at c.tag_laid_out.ensures
