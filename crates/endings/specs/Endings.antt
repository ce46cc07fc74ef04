-- Document 01, "How a run ends": the endings and their numbers.
use Rattle.std.specs.Prelude.{ℕ}
use Rattle.endings.specs.declared.Ending.{Ending}
use Rattle.endings.specs.declared.Ending.TheVariants.{Normal, StoppedByError, BudgetSpent, NoReadingLeft, OutsideRange, DivisionBy0, StackFull, PrintDoesNotFit, BadCode}

abbrev pub normal : ℕ
normal = 0

abbrev pub stopped_by_ERROR : ℕ
stopped_by_ERROR = 1

abbrev pub budget_spent : ℕ
budget_spent = 2

abbrev pub no_reading_left : ℕ
no_reading_left = 3

abbrev pub outside_range : ℕ
outside_range = 4

abbrev pub division_by_0 : ℕ
division_by_0 = 5

abbrev pub stack_full : ℕ
stack_full = 6

abbrev pub print_does_not_fit : ℕ
print_does_not_fit = 7

abbrev pub bad_code : ℕ
bad_code = 8

-- the number of an ending as the code has it
abbrev pub number_of : Ending → ℕ
number_of Normal = normal
number_of StoppedByError = stopped_by_ERROR
number_of BudgetSpent = budget_spent
number_of NoReadingLeft = no_reading_left
number_of OutsideRange = outside_range
number_of DivisionBy0 = division_by_0
number_of StackFull = stack_full
number_of PrintDoesNotFit = print_does_not_fit
number_of BadCode = bad_code
