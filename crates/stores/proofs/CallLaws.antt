-- The volume after a call is the call's list laid over the volume before.
use mathlib.Core.Path.{◌≡◌, refl, sym}
use mathlib.Core.List.{List}
use Prim.Native.Nat.{ℕ}
use lib.ListN.{length}
use Rattle.answers.specs.Numbers.{accepts}
use Rattle.drive.specs.declared.Drive.{Drive}
use Rattle.nuggets.specs.Nugget.{contents_of}
use Rattle.changes.specs.Write.{write_way, write_answer, writes, new_contents, written_drive, write_volume}
use Rattle.changes.specs.Rekey.{begin_answer, begun_drive, begin_volume, sweep_answer, sweep_ways, swept_drive, sweep_volume, finish_answer, finished_drive, finish_volume}
use Rattle.changes.specs.Discard.{clears, discard_ways, discarded_drive, discard_volume}
use Rattle.history.specs.World.{mount, write, begin, sweep, finish, discard, asks}
use Rattle.history.specs.Step.{step, world_after, mounted}
use Rattle.stores.specs.Store.{applied}
use Rattle.stores.specs.Calls.{write_stores, begin_stores, sweep_stores, finish_stores, discard_stores, stores_of, StoresLaid}
use Rattle.stores.proofs.WorkLaws.{applied-pick, head_stores_lem, change_stores}

module _ (d : Drive) (v : List ℕ) where
  pub write_stores_lem : (o : ℕ) (bytes : List ℕ) → applied (write_stores d v o bytes) v ≡ write_volume d v o bytes
  unfolding write_stores write_volume
  write_stores_lem o bytes =
      applied-pick (writes (write_answer d v o (length bytes)) bytes) _ v
      (change_stores d v (write_way d v o (length bytes)) (new_contents d v o bytes) (written_drive d v o bytes))

  pub begin_stores_lem : (secret : List ℕ) → applied (begin_stores d v secret) v ≡ begin_volume d v secret
  unfolding begin_stores begin_volume
  begin_stores_lem secret = applied-pick (accepts (begin_answer d v secret)) _ v (head_stores_lem (begun_drive d secret) v)

  pub sweep_stores_lem : (n : ℕ) → applied (sweep_stores d v n) v ≡ sweep_volume d v n
  unfolding sweep_stores sweep_volume
  sweep_stores_lem n = applied-pick (accepts (sweep_answer d v n)) _ v (change_stores d v (sweep_ways n) (contents_of d v) (swept_drive d v n))

  pub finish_stores_lem : applied (finish_stores d v) v ≡ finish_volume d v
  unfolding finish_stores finish_volume
  finish_stores_lem = applied-pick (accepts (finish_answer d v)) _ v (head_stores_lem (finished_drive d) v)

  pub discard_stores_lem : (n first count : ℕ) → applied (discard_stores d v n first count) v ≡ discard_volume d v n first count
  unfolding discard_stores discard_volume
  discard_stores_lem n first count =
      applied-pick (clears d v n first count) _ v (change_stores d v (discard_ways n first count) (contents_of d v) (discarded_drive d v n first count))

pub stores_laid : StoresLaid
unfolding step world_after mounted stores_of applied
stores_laid w (mount any) = refl
stores_laid w (write o bytes) = sym (write_stores_lem w.drive w.vol o bytes)
stores_laid w (begin secret) = sym (begin_stores_lem w.drive w.vol secret)
stores_laid w (sweep n) = sym (sweep_stores_lem w.drive w.vol n)
stores_laid w finish = sym (finish_stores_lem w.drive w.vol)
stores_laid w (discard n first count) = sym (discard_stores_lem w.drive w.vol n first count)
stores_laid w (asks q) = refl
