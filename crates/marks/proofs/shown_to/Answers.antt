-- `marks::shown_to` meets its contract. Assumes nothing.
use Rattle.std.proofs.Common.{arith, sym}
use lib.Seq.{length-take-le}
use Rattle.place.proofs.Places.{within_fits}
use Rattle.marks.proofs.Shown.{to_is, to_fits}
use Rattle.marks.proofs.shown_to.Goals as goal

pub slice_bounds-others-count : goal.slice_bounds-others-count
slice_bounds-others-count c = within_fits _ _ c.within-next.ensures

pub slice_bounds-others-start : goal.slice_bounds-others-start
slice_bounds-others-start c = within_fits _ _ c.within-next.ensures

pub slice_bounds-such_run-end : goal.slice_bounds-such_run-end
slice_bounds-such_run-end c = sym (length-take-le _ _ (within_fits _ _ c.within-rest.ensures))

pub returns : goal.returns
returns c = to_is _ _ _ _ _ _ c.within-next.ensures c.within-rest.ensures c.such_run.ensures

pub overflow_add-result : goal.overflow_add-result
overflow_add-result c = let h = to_fits _ _ _ (returns c) in omega arith
