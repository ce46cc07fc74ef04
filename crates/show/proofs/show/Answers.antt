-- What is said and written is what stands on the page. Assumes nothing.
use Rattle.std.proofs.Common.{sym, length-take-le}
use Rattle.tells.proofs.Pages.{on_page}
use Rattle.show.proofs.show.Goals as goal

pub slice_bounds-page-end : goal.slice_bounds-page-end
slice_bounds-page-end c = on_page c.show-said.ensures

pub slice_bounds-deliver-end : goal.slice_bounds-deliver-end
slice_bounds-deliver-end c = sym (length-take-le _ _ (on_page c.show-said.ensures))
