-- `base::is_such_at` meets its contract. Assumes nothing.
use Rattle.std.proofs.Common.{arith}
use borrow.Author.Tests.{ltb-true, ltb-false}
use Rattle.base.proofs.Runs.{begins_at, begins_none}
use Rattle.base.proofs.is_such_at.Goals as goal

pub returns : goal.returns
returns g c = grind (arith, begins_at, begins_none, ltb-true, ltb-false)
