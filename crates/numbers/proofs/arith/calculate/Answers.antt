-- `arith::calculate` meets its contract, an operator at a time. Assumes nothing.
use Rattle.std.proofs.Common.{ap, arith, rules, ◌*ℤ◌}
use mir.Syntax.{w64}
use mir.Val.{SFits}
use Rattle.std.proofs.lemmas.Int.{ints}
use mir.Facts.{to_z-of_z}
use Rattle.numbers.specs.Numbers.{in_range, calculate}
use Rattle.numbers.proofs.Signed.{back, same_bits}
use Rattle.numbers.proofs.arith.calculate.Goals as goal

pub returns-in-Plus : goal.returns-in-Plus
unfolding calculate
returns-in-Plus c = rw (c.in-Plus.is, c.in_range.ensures) (ap in_range (omega (arith, ints)))

pub returns-in-Minus : goal.returns-in-Minus
unfolding calculate
returns-in-Minus c = rw (c.in-Minus.is, c.in_range-in-Minus.ensures) (ap in_range (omega (arith, ints)))

pub returns-in-Times : goal.returns-in-Times
unfolding calculate
returns-in-Times c =
    let f : SFits w64 (c.args.a *ℤ c.args.b) = search rules in
    rw (c.in-Times.is, c.in_range-in-Times.ensures, c.from-x.ensures, c.from-y.ensures, back c.ranges.a, back c.ranges.b, to_z-of_z f)

pub returns-in-Equals : goal.returns-in-Equals
unfolding calculate
returns-in-Equals c = rw (c.in-Equals.is) (grind (arith, to_z-of_z, c.truth.ensures, same_bits c.args.a c.args.b c.ranges.a c.ranges.b))

pub returns-in-Smaller : goal.returns-in-Smaller
unfolding calculate
returns-in-Smaller c = rw (c.in-Smaller.is) (grind (arith, to_z-of_z, c.truth-in-Smaller.ensures))

pub returns-in-Greater : goal.returns-in-Greater
unfolding calculate
returns-in-Greater c = rw (c.in-Greater.is) (grind (arith, to_z-of_z, c.truth-in-Greater.ensures))
