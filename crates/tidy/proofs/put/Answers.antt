-- `tidy::put` meets its contract. Assumes nothing.
use Rattle.tidy.proofs.Puts.{puts_print, puts_stop, puts_then}
use Rattle.std.proofs.Common.{refl}
use Rattle.tidy.proofs.put.Goals as goal

pub returns-in_err-next : goal.returns-in_err-next
returns-in_err-next c = rw c.from_residual.ensures (puts_stop _ c.in_err-next.ensures refl)

pub returns : goal.returns
returns c = puts_then c.in_ok-next.ensures refl (puts_print c.print.ensures)
