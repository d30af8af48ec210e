use Rattle.fleets.proofs.LineLaws.{fleet_fits}
use lib.Dec.{lit≤}
use Rattle.fleet.proofs.main.Goals as goal

pub slice_bounds-out-end : goal.slice_bounds-out-end
slice_bounds-out-end c = (fleet_fits _ (lit≤ tt) c.fleet_read-k.ensures).0

pub slice_bounds-write_all-end : goal.slice_bounds-write_all-end
slice_bounds-write_all-end c = (fleet_fits _ (lit≤ tt) c.fleet_read-k.ensures).1
