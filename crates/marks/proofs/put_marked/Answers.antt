-- `marks::put_marked` meets its contract. Assumes nothing.
use Rattle.std.proofs.Common.{sym}
use lib.Seq.{length-take-le}
use Rattle.lines.proofs.Adds.{adds_then}
use Rattle.marks.proofs.Shown.{same_adds, to_end, marked_parts, from_fits, to_fits}
use Rattle.marks.proofs.put_marked.Goals as goal

pub slice_bounds-shown-count : goal.slice_bounds-shown-count
slice_bounds-shown-count c = from_fits _ _ _ c.shown_from-from.ensures

pub slice_bounds-shown-start : goal.slice_bounds-shown-start
slice_bounds-shown-start c = from_fits _ _ _ c.shown_from-from.ensures

pub slice_bounds-put_line-end : goal.slice_bounds-put_line-end
slice_bounds-put_line-end c = sym (length-take-le _ _ (to_fits _ _ _ c.shown_to-to.ensures))

pub returns : goal.returns
returns c = same_adds (marked_parts _ _ _ _ _ c.shown_from-from.ensures c.shown_to-to.ensures) (rw (to_end c.args.before.now c.shown_from-from.result) at (adds_then c.put_line-next.ensures c.put_mark.ensures))
