-- How the code holds results and operators: what each of its values means in the definitions.
use Rattle.std.specs.Prelude.{ℤ, Ok, Err}
use Rattle.std.specs.Prelude as Std
use Rattle.endings.specs.Endings.{number_of}
use Rattle.endings.specs.declared.Ending.{Ending}
use Rattle.numbers.specs.Numbers.{Result, value, ends, TwoSidedOperation, plus, minus, times, divide, equals, smaller, greater}
use Rattle.numbers.specs.declared.arith.Operator.{Operator}
use Rattle.numbers.specs.declared.arith.Operator.TheVariants.{Plus, Minus, Times, Divide, Equals, Smaller, Greater}

abbrev pub as_result : Std.Result ℤ Ending → Result
as_result (Ok v) = value v
as_result (Err e) = ends (number_of e)

abbrev pub as_two_sided : Operator → TwoSidedOperation
as_two_sided Plus = plus
as_two_sided Minus = minus
as_two_sided Times = times
as_two_sided Divide = divide
as_two_sided Equals = equals
as_two_sided Smaller = smaller
as_two_sided Greater = greater
