-- What was decoded, as what it asks for at a state that is past it.
use Rattle.std.specs.Prelude.{List, true, false, ℕ, ℤ}
use Rattle.endings.specs.Endings.{number_of}
use Rattle.numbers.specs.inner.Coded.{as_two_sided}
use Rattle.instruction.specs.declared.decode.Op.{Op}
use Rattle.instruction.specs.declared.decode.Op.TheVariants.{Halt, PushInt, LoadStack, StoreStack, Jump, JumpIfFalse, TwoSided, Negate, Not, Read, PrintInt, PrintStr, PrintStrLn}
use Rattle.moves.specs.inner.Moves.{stops, push_int_move, load_stack_move, store_stack_move, jump_move, jump_if_false_move, two_sided_move, negate_move, not_move, read_move}
use Rattle.moves.specs.declared.State.{State}
use Rattle.perform.specs.inner.Prints.{Asked, silent, asked_str, asked_int}

-- `size` is the table's length, `live` the live cells, and `cells` how many the stack has
unfoldable pub asked : State → ℕ → List ℕ → List ℤ → List ℤ → ℕ → Op → Asked
asked s size text readings live cells (Halt e) = silent (stops (number_of e))
asked s size text readings live cells (PushInt v) = silent (push_int_move s cells v)
asked s size text readings live cells (LoadStack k) = silent (load_stack_move s cells live k)
asked s size text readings live cells (StoreStack k) = silent (store_stack_move s live k)
asked s size text readings live cells (Jump a) = silent (jump_move s size a)
asked s size text readings live cells (JumpIfFalse a) = silent (jump_if_false_move s live size a)
asked s size text readings live cells (TwoSided k) = silent (two_sided_move s live (as_two_sided k))
asked s size text readings live cells Negate = silent (negate_move s live)
asked s size text readings live cells Not = silent (not_move s live)
asked s size text readings live cells Read = silent (read_move s cells readings)
asked s size text readings live cells PrintInt = asked_int s live
asked s size text readings live cells (PrintStr q) = asked_str s text q false
asked s size text readings live cells (PrintStrLn q) = asked_str s text q true
