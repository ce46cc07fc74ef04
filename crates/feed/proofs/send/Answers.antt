-- What is said and written is what stands on the pages. Assumes nothing.
use Rattle.std.proofs.Common.{sym, length-take-le}
use Rattle.tells.proofs.Pages.{on_page, on_note}
use Rattle.feed.proofs.send.Goals as goal

pub slice_bounds-page-end : goal.slice_bounds-page-end
slice_bounds-page-end c = on_page c.feed-said.ensures.so.says

pub slice_bounds-deliver-end : goal.slice_bounds-deliver-end
slice_bounds-deliver-end c = sym (length-take-le _ _ (on_page c.feed-said.ensures.so.says))

pub slice_bounds-note-end : goal.slice_bounds-note-end
slice_bounds-note-end c = on_note c.feed-said.ensures.so.says

pub slice_bounds-deliver-end-2 : goal.slice_bounds-deliver-end-2
slice_bounds-deliver-end-2 c = sym (length-take-le _ _ (on_note c.feed-said.ensures.so.says))
