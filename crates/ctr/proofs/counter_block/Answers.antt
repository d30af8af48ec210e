use Rattle.ctr.proofs.CounterLaws.{counter_is}
use Rattle.ctr.proofs.counter_block.Goals as goal

pub returns : goal.returns
returns c =
    let a = c.args in
    simp (c.copy_from_slice-2.ensures.after, c.copy_from_slice.ensures.after, c.to_be_bytes-2.ensures, c.to_be_bytes.ensures) (counter_is a.keycount a.number)
