-- `base::part` meets its contract. Assumes nothing.
use Rattle.base.proofs.Words.{part_at}
use Rattle.base.proofs.part.Goals as goal

pub returns : goal.returns
returns c = part_at c.args.text.now c.args.p c.args.e _ _ c.min-end.ensures c.min.ensures
