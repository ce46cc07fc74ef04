-- `kit::run_text` meets its contract. Assumes nothing.
use mathlib.Core.Path.{sym}
use lib.Seq.{length-take-le}
use Rattle.kit.proofs.Comes.{room}
use Rattle.kit.proofs.run_text.Goals as goal

pub slice_bounds-own_code-end-2 : goal.slice_bounds-own_code-end-2
slice_bounds-own_code-end-2 c = sym (length-take-le _ _ (room _ _ _ _ c.in_ok-counts.ensures))
