use Rattle.pages.proofs.MountLaws.{page_fits}
use lib.Dec.{lit≤}
use Rattle.audit.proofs.main.Goals as goal

pub slice_bounds-out-end : goal.slice_bounds-out-end
slice_bounds-out-end c = (page_fits _ (lit≤ tt) c.audit_page-k.ensures).0

pub slice_bounds-write_all-end : goal.slice_bounds-write_all-end
slice_bounds-write_all-end c = (page_fits _ (lit≤ tt) c.audit_page-k.ensures).1
