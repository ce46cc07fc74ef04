-- `programs::copy` meets its contract. Assumes nothing.
use mathlib.Core.Path.{refl}
use Rattle.programs.proofs.Copies.{copies}
use Rattle.programs.proofs.copy.Goals as goal

pub returns : goal.returns
returns c = copies _ _ refl c.tidy-copied.ensures c.tell_copy.ensures
