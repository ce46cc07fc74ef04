-- `arith::negated` meets its contract. Assumes nothing.
use mir.Facts.{to_z-of_z}
use Rattle.numbers.proofs.Signed.{checked_is}
use Rattle.numbers.proofs.arith.negated.Goals as goal

pub returns : goal.returns
returns c = rw c.ok_or.ensures.value (checked_is _ _ (rw (to_z-of_z c.ranges.v) at c.checked_neg.ensures))
