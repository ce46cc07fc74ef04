-- `marks::shown_from` meets its contract. Assumes nothing.
use Rattle.std.proofs.Common.{arith}
use Rattle.marks.proofs.Shown.{from_all, from_cut, from_fits}
use Rattle.marks.proofs.shown_from.Goals as goal

pub returns-then-before-le-WHOLE : goal.returns-then-before-le-WHOLE
returns-then-before-le-WHOLE c = from_all _ _ _ (omega arith)

pub returns : goal.returns
returns c = from_cut _ _ _ _ (omega arith) c.such_run.ensures

pub overflow_add-result : goal.overflow_add-result
overflow_add-result c = let h = from_fits _ _ _ (returns c) in omega arith
