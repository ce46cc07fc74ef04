-- `decimal::put_decimal` meets its contract. Assumes nothing.
use mathlib.Core.Path.{◌≡◌, ◌∙◌}
use native.Mathlib.Omega.{arith}
use lib.IntN.{nat_abs}
use mir.Facts.{to_z-of_z}
use Rattle.numbers.specs.Numbers.{decimal}
use Rattle.numbers.proofs.Digits.{few_digits, decimal_below}
use Rattle.numbers.proofs.Buffers.{one_before}
use Rattle.numbers.proofs.decimal.put_decimal.Goals as goal

-- ten digits at most leave a place for the sign
pub overflow_sub-sign : goal.overflow_sub-sign
unfolding decimal
overflow_sub-sign c = omega (arith, c.put_digits-at.ensures.count, few_digits 9 c.from.result (omega arith))

-- the distance was asked of the number read back from its bits
pub returns-then-v-lt0 : goal.returns-then-v-lt0
unfolding decimal
returns-then-v-lt0 c =
    let distance : c.from.result ≡ nat_abs c.args.v = c.from.ensures ∙ (rw (to_z-of_z c.ranges.v) at c.distance.ensures) in
    rw (decimal_below c.args.v (rw (to_z-of_z c.ranges.v) at c.if-v-lt0.true), ← distance) (one_before 45 (omega (arith, c.put_digits-at.ensures.count, few_digits 9 c.from.result (omega arith))) c.put_digits-at.ensures)
