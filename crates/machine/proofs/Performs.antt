-- What was decoded, done at the state past it, is what the rule says. Assumes nothing.
use mathlib.Core.Path.{◌≡◌}
use mathlib.Core.List.{List}
use Prim.Native.Nat.{ℕ}
use lib.IntN.{ℤ}
use lib.ListN.{length}
use Rattle.std.specs.Prelude.{true, false, Some}
use Rattle.endings.specs.Endings.{number_of}
use Rattle.moves.specs.inner.Moves.{Led}
use Rattle.instruction.specs.inner.Coded.{as_instruction}
use Rattle.instruction.specs.declared.decode.Op.{Op}
use Rattle.instruction.specs.declared.decode.Op.TheVariants.{Halt, PushInt, LoadStack, StoreStack, Jump, JumpIfFalse, TwoSided, Negate, Not, Read, PrintInt, PrintStr, PrintStrLn}
use Rattle.moves.specs.declared.State.{State}
use Rattle.perform.specs.inner.Prints.{print_move, print_room, Performed}
use Rattle.perform.specs.inner.Asks.{asked}
use Rattle.rules.specs.Machine.{Lent, decoded}
use Rattle.machine.specs.inner.Coded.{Good, Did}
use Rattle.machine.proofs.Moves.{held, pushes_int, loads_stack, stores_stack, jumps, jumps_if_false, operates, negates, nots, reads}
use Rattle.machine.proofs.Prints.{So, prints_int, prints_str}
use Rattle.machine.proofs.Steps.{stopped, halts}

module _ {lent : Lent} {before : List ℕ} {s : State} {cells : List ℤ} {room : List ℕ} (g : Good lent before s cells room) where
  each : (o : Op) → So g (decoded lent (as_instruction (Some o))) (asked s (length lent.table) lent.text lent.readings (held s cells) (length cells) o)
  unfolding asked decoded print_move print_room
  each (Halt e) = stopped g _ (number_of e) (halts g (number_of e))
  each (PushInt v) = pushes_int g v
  each (LoadStack k) = loads_stack g k
  each (StoreStack k) = stores_stack g k
  each (Jump a) = jumps g a
  each (JumpIfFalse a) = jumps_if_false g a
  each (TwoSided k) = operates g _
  each Negate = negates g
  each Not = nots g
  each Read = reads g
  each PrintInt = prints_int g
  each (PrintStr q) = prints_str g q false
  each (PrintStrLn q) = prints_str g q true

  -- it is lent as many cells as the stack has
  pub performs : (o : Op) {n : ℕ} → n ≡ length cells → {r : Led} {room' : List ℕ} →
      Performed (asked s (length lent.table) lent.text lent.readings (held s cells) n o) room r room' → Did lent before (decoded lent (as_instruction (Some o))) s cells room r room'
  performs o e p = rw (p.answer, p.bytes, e) (each o)
