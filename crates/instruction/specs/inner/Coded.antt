-- How the code holds instructions: what each of its values means in the definitions.
use Rattle.std.specs.Prelude.{Some, None}
use Rattle.std.specs.Prelude as Std
use Rattle.std.proofs.Math.Option.{Option, none, some}
use Rattle.endings.specs.Endings.{number_of}
use Rattle.numbers.specs.inner.Coded.{as_two_sided}
use Rattle.instruction.specs.Instructions.{Instruction, halt, push_int, load_stack, store_stack, jump, jump_if_false, two_sided, negate, not, read, print_int, print_str, print_str_ln}
use Rattle.instruction.specs.declared.decode.Op.{Op}
use Rattle.instruction.specs.declared.decode.Op.TheVariants.{Halt, PushInt, LoadStack, StoreStack, Jump, JumpIfFalse, TwoSided, Negate, Not, Read, PrintInt, PrintStr, PrintStrLn}

-- an instruction as it is done
abbrev pub as_done : Op → Instruction
as_done (Halt e) = halt (number_of e)
as_done (PushInt v) = push_int v
as_done (LoadStack k) = load_stack k
as_done (StoreStack k) = store_stack k
as_done (Jump a) = jump a
as_done (JumpIfFalse a) = jump_if_false a
as_done (TwoSided k) = two_sided (as_two_sided k)
as_done Negate = negate
as_done Not = not
as_done Read = read
as_done PrintInt = print_int
as_done (PrintStr q) = print_str q
as_done (PrintStrLn q) = print_str_ln q

-- none for bad code
abbrev pub as_instruction : Std.Option Op → Option Instruction
as_instruction None = none
as_instruction (Some o) = some (as_done o)
