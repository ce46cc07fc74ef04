-- `base::is_same` meets its contract. Assumes nothing.
use Rattle.std.proofs.Common.{◌∙◌}
use Rattle.base.proofs.Words.{pointwise_same}
use Rattle.base.proofs.is_same.Goals as goal

pub returns : goal.returns
returns c = c.eq.ensures ∙ pointwise_same _ _
