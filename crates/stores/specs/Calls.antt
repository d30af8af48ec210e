-- What each call stores: nothing if it is refused, and nothing if it is one that changes nothing.
use Rattle.std.specs.Prelude.{ℕ, ◌≡◌, List, [], ◌++◌, length}
use Rattle.base.specs.Pick.{pick}
use Rattle.answers.specs.Numbers.{accepts}
use Rattle.drive.specs.declared.Drive.{Drive}
use Rattle.nuggets.specs.Nugget.{contents_of}
use Rattle.changes.specs.Write.{write_way, write_answer, writes, new_contents, written_drive}
use Rattle.changes.specs.Rekey.{begin_answer, begun_drive, sweep_answer, sweep_ways, swept_drive, finish_answer, finished_drive}
use Rattle.changes.specs.Discard.{clears, discard_ways, discarded_drive}
use Rattle.history.specs.World.{World, Call, mount, write, begin, sweep, finish, discard, asks}
use Rattle.history.specs.Step.{step}
use Rattle.stores.specs.Store.{Store, applied}
use Rattle.stores.specs.Work.{work_stores, head_stores}

unfoldable pub write_stores : Drive → List ℕ → ℕ → List ℕ → List Store
write_stores d v o bytes =
    pick (writes (write_answer d v o (length bytes)) bytes)
    (work_stores d v (write_way d v o (length bytes)) (new_contents d v o bytes) ++ head_stores (written_drive d v o bytes))
    []

unfoldable pub begin_stores : Drive → List ℕ → List ℕ → List Store
begin_stores d v secret = pick (accepts (begin_answer d v secret)) (head_stores (begun_drive d secret)) []

unfoldable pub sweep_stores : Drive → List ℕ → ℕ → List Store
sweep_stores d v n = pick (accepts (sweep_answer d v n)) (work_stores d v (sweep_ways n) (contents_of d v) ++ head_stores (swept_drive d v n)) []

unfoldable pub finish_stores : Drive → List ℕ → List Store
finish_stores d v = pick (accepts (finish_answer d v)) (head_stores (finished_drive d)) []

unfoldable pub discard_stores : Drive → List ℕ → ℕ → ℕ → ℕ → List Store
discard_stores d v n first count =
    pick (clears d v n first count) (work_stores d v (discard_ways n first count) (contents_of d v) ++ head_stores (discarded_drive d v n first count)) []

-- the list of a call of a history
unfoldable pub stores_of : World → Call → List Store
stores_of w (mount any) = []
stores_of w (write o bytes) = write_stores w.drive w.vol o bytes
stores_of w (begin secret) = begin_stores w.drive w.vol secret
stores_of w (sweep n) = sweep_stores w.drive w.vol n
stores_of w finish = finish_stores w.drive w.vol
stores_of w (discard n first count) = discard_stores w.drive w.vol n first count
stores_of w (asks q) = []

-- The volume after any call, of any drive and volume, is its list laid over the volume before.
abbrev pub StoresLaid : Type 0
StoresLaid = (w : World) (c : Call) → (step w c).vol ≡ applied (stores_of w c) w.vol
