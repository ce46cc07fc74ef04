-- `arith::quotient` meets its contract. Assumes nothing.
use mir.Facts.{to_z-of_z}
use Rattle.numbers.specs.Numbers.{calculate}
use Rattle.numbers.proofs.Signed.{false_is, false_not, bits_pos, divided_is, checked_is}
use Rattle.numbers.proofs.arith.quotient.Goals as goal

pub returns-then-b-eq0 : goal.returns-then-b-eq0
unfolding calculate
returns-then-b-eq0 c = rw (false_is c.args.b c.ranges.b c.if-b-eq0.true)

pub returns : goal.returns
unfolding calculate
returns c = rw (c.ok_or.ensures.value, false_not c.args.b c.ranges.b c.if-b-eq0.false) (checked_is _ _ (divided_is _ _ _ (bits_pos _ c.if-b-eq0.false) (rw (to_z-of_z c.ranges.a, to_z-of_z c.ranges.b) at c.checked_div.ensures)))
