-- What is said and written is what stands on the page. Assumes nothing.
use Rattle.std.proofs.Common.{sym, length-take-le}
use Rattle.tells.proofs.Pages.{on_page}
use Rattle.lessons.proofs.run.Goals as goal

pub slice_bounds-page-end : goal.slice_bounds-page-end
slice_bounds-page-end c = on_page c.station-said.ensures.so.says

pub slice_bounds-write_all-end : goal.slice_bounds-write_all-end
slice_bounds-write_all-end c = sym (length-take-le _ _ (on_page c.station-said.ensures.so.says))
