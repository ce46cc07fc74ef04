-- `decimal::put_digits` meets its contract. The loop's invariant: the digits are those of the rest, then those that are written, and a
-- place is left before them. The measure is the rest. Assumes nothing.
use native.Mathlib.Omega.{arith}
use Rattle.numbers.specs.Numbers.{decimal}
use Rattle.numbers.proofs.Buffers.{one_left, digit_more, digit_last}
use Rattle.numbers.proofs.decimal.put_digits.Goals as goal

pub loop-rest-preserved : goal.loop-rest-preserved
loop-rest-preserved c =
    let w = digit_more c.loop-rest.invariant.0 c.loop-rest-test.true c.loop-rest.invariant.1.0 in
    (w, (one_left w c.ranges.n.fits, omega arith))

pub returns : goal.returns
unfolding decimal
returns c = digit_last c.loop-rest.invariant.0 (omega arith) c.loop-rest.invariant.1.0
