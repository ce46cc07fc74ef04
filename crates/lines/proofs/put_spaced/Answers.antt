-- `lines::put_spaced` meets its contract. Assumes nothing.
use mathlib.Core.List.{List}
use lib.IntN.{ℤ}
use mir.Syntax.{w32}
use mir.Val.{SFits}
use native.Mathlib.Omega.{arith}
use mir.Facts.{to_z-of_z}
use Prim.Native.Nat.{ℕ, ◌≤◌}
use Rattle.numbers.specs.Numbers.{decimal}
use Rattle.numbers.specs.inner.Buffers.{AtTheEnd}
use Rattle.numbers.proofs.Buffers.{buffer_size, end_part, one_before}
use Rattle.lines.proofs.Short.{short_integer}
use Rattle.lines.proofs.put_spaced.Goals as goal

-- there is room for the space before them
room : (v : ℤ) (first last : List ℕ) (at : ℕ) → SFits w32 v → AtTheEnd (decimal v) first last at → 1 ≤ at
room v first last at f a = omega (arith, a.count, short_integer v f)

pub overflow_sub-from : goal.overflow_sub-from
overflow_sub-from c = room c.args.v _ _ _ c.ranges.v (rw (to_z-of_z c.ranges.v) at c.put_decimal-from.ensures)

pub slice_bounds-put-end : goal.slice_bounds-put-end
slice_bounds-put-end c = omega (arith, buffer_size (one_before 32 (room c.args.v _ _ _ c.ranges.v (rw (to_z-of_z c.ranges.v) at c.put_decimal-from.ensures)) (rw (to_z-of_z c.ranges.v) at c.put_decimal-from.ensures)))

pub returns : goal.returns
returns c = rw (end_part (one_before 32 (room c.args.v _ _ _ c.ranges.v (rw (to_z-of_z c.ranges.v) at c.put_decimal-from.ensures)) (rw (to_z-of_z c.ranges.v) at c.put_decimal-from.ensures))) at c.put.ensures
