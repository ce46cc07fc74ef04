-- `compiler::command::print_int` meets its contract. Assumes nothing.
use Rattle.compiler.specs.inner.Walks.{print_way}
use Rattle.compiler.proofs.Commands.{print_leads}
use Rattle.compiler.proofs.Lays.{lays_print}
use Rattle.compiler.proofs.Replies.{led_followed, passed_on, counts_got}
use Rattle.compiler.proofs.command.print_int.Goals as goal

pub returns-in_err-r : goal.returns-in_err-r
returns-in_err-r c = passed_on print_way _ _ _ _ _ _ _ _ c.from_residual.ensures.1 ((print_leads _ _ _).refuses c.in_err-r.ensures)

pub followed-requires : goal.followed-requires
followed-requires c = (counts_got c.requires c.in_ok-r.ensures).0

pub returns : goal.returns
returns c = rw (c.followed.ensures.0, c.followed.ensures.1) (led_followed (print_leads _ _ _) c.in_ok-r.ensures (lays_print c.in_ok-r.ensures.laid))
