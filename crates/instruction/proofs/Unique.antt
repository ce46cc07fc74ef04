-- What the code holds tells instructions apart, so that the contract of `decode` leaves one answer. Assumes nothing.
use mathlib.Core.Path.{◌≡◌, refl, ap}
use Rattle.std.specs.Prelude.{Option, Some, None}
use Rattle.endings.proofs.Unique.{ending_back, ending_again}
use Rattle.numbers.specs.Numbers.{TwoSidedOperation, plus, minus, times, divide, equals, smaller, greater}
use Rattle.numbers.specs.inner.Coded.{as_two_sided}
use Rattle.numbers.specs.declared.arith.Operator.{Operator}
use Rattle.numbers.specs.declared.arith.Operator.TheVariants.{Plus, Minus, Times, Divide, Equals, Smaller, Greater}
use Rattle.base.proofs.Unique.{same_by}
use Rattle.instruction.specs.Instructions.{Instruction, halt, push_int, load_stack, store_stack, jump, jump_if_false, two_sided, negate, not, read, print_int, print_str, print_str_ln}
use Rattle.instruction.specs.inner.Coded.{as_done, as_instruction}
use Rattle.instruction.specs.declared.decode.Op.{Op}
use Rattle.instruction.specs.declared.decode.Op.TheVariants.{Halt, PushInt, LoadStack, StoreStack, Jump, JumpIfFalse, TwoSided, Negate, Not, Read, PrintInt, PrintStr, PrintStrLn}

abbrev operator_back : TwoSidedOperation → Operator
operator_back plus = Plus
operator_back minus = Minus
operator_back times = Times
operator_back divide = Divide
operator_back equals = Equals
operator_back smaller = Smaller
operator_back greater = Greater

operator_again : (k : Operator) → operator_back (as_two_sided k) ≡ k
operator_again Plus = refl
operator_again Minus = refl
operator_again Times = refl
operator_again Divide = refl
operator_again Equals = refl
operator_again Smaller = refl
operator_again Greater = refl

abbrev op_back : Instruction → Op
op_back (halt h) = Halt (ending_back h)
op_back (push_int v) = PushInt v
op_back (load_stack k) = LoadStack k
op_back (store_stack k) = StoreStack k
op_back (jump a) = Jump a
op_back (jump_if_false a) = JumpIfFalse a
op_back (two_sided t) = TwoSided (operator_back t)
op_back negate = Negate
op_back not = Not
op_back read = Read
op_back print_int = PrintInt
op_back (print_str q) = PrintStr q
op_back (print_str_ln q) = PrintStrLn q

op_again : (o : Op) → op_back (as_done o) ≡ o
op_again (Halt e) = ap Halt (ending_again e)
op_again (PushInt v) = refl
op_again (LoadStack k) = refl
op_again (StoreStack k) = refl
op_again (Jump a) = refl
op_again (JumpIfFalse a) = refl
op_again (TwoSided k) = ap TwoSided (operator_again k)
op_again Negate = refl
op_again Not = refl
op_again Read = refl
op_again PrintInt = refl
op_again (PrintStr q) = refl
op_again (PrintStrLn q) = refl

pub one_instruction : (o p : Option Op) → as_instruction o ≡ as_instruction p → o ≡ p
one_instruction None None h = refl
one_instruction None (Some p) h = cc
one_instruction (Some o) None h = cc
one_instruction (Some o) (Some p) h = ap Some (same_by as_done op_back op_again o p (cc))
