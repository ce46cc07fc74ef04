-- `tidy::put_space` meets its contract. Assumes nothing.
use borrow.Author.Tests.{ne_eqb}
use Rattle.tidy.specs.inner.Copies.{gap}
use Rattle.tidy.proofs.Puts.{puts_none, puts_print}
use Rattle.tidy.proofs.put_space.Goals as goal

pub returns-then-at-eq0 : goal.returns-then-at-eq0
unfolding gap
returns-then-at-eq0 c = rw c.if-at-eq0.true (puts_none _)

pub returns : goal.returns
unfolding gap
returns c = rw (ne_eqb _ 0 c.if-at-eq0.false) (puts_print c.print.ensures)
