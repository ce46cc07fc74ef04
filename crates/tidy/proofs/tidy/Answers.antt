-- `tidy::tidy` meets its contract. Assumes nothing.
use Rattle.tidy.proofs.Outcomes.{then_zeros}
use Rattle.tidy.proofs.tidy.Goals as goal

pub returns : goal.returns
returns c = then_zeros _ _ _ c.copy-copied.ensures c.unwrap_or.ensures c.clear_from.ensures
