-- The readings that are handed on are those of some input, and no more than there are.
use Rattle.std.proofs.Common.{sym, inr, length-take-le}
use Rattle.input.proofs.Lent.{are_readings, fit}
use Rattle.desk.proofs.with_lesson.Goals as goal

pub slice_bounds-work-end-in-Some-2 : goal.slice_bounds-work-end-in-Some-2
slice_bounds-work-end-in-Some-2 g c = fit _ _ _ c.in-Some.ensures.1

pub slice_bounds-work-end-in-Some-3 : goal.slice_bounds-work-end-in-Some-3
slice_bounds-work-end-in-Some-3 g c = sym (length-take-le _ _ (fit _ _ _ c.in-Some.ensures.1))

pub returns-in-Some : goal.returns-in-Some
returns-in-Some g c =
    let r = are_readings _ _ _ c.in-Some.ensures.1 in
    inr (_, _, r.0, r.1, c.work.ensures)
