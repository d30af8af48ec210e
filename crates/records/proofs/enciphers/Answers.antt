use Rattle.records.specs.Rule.{enciphered}
use Rattle.records.proofs.enciphers.Goals as goal

pub returns-in-Idle : goal.returns-in-Idle
unfolding enciphered
returns-in-Idle c = rw c.in-Idle.is

pub returns-in-Add : goal.returns-in-Add
unfolding enciphered
returns-in-Add c = rw c.in-Add.is

pub returns-in-Rekey : goal.returns-in-Rekey
unfolding enciphered
returns-in-Rekey c = rw c.in-Rekey.is c.join.ensures

pub returns-in-Clear : goal.returns-in-Clear
unfolding enciphered
returns-in-Clear c = rw c.in-Clear.is
