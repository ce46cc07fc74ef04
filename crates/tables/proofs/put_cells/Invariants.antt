use Prim.Native.Nat.{◌-◌}
use mathlib.Core.Path.{◌≡◌}
use lib.IntN.{pos}
use lib.ListN.{replicate}
use Rattle.instruction.specs.Instructions.{push_int}
use Rattle.tables.specs.inner.Tables.{emit, opening}
use Rattle.tables.proofs.put_cells.Given as goal

abbrev pub invariant-loop-i : goal.invariant-loop-i
invariant-loop-i l = emit l.table l.i (replicate (l.cells - l.i) (push_int (pos 0))) ≡ opening l.cells l.initial.table
