-- `print_int` meets its contract. Assumes nothing.
use Rattle.std.proofs.Common.{arith, rules, ◌-◌, ℤ, pos, length, get_or, length-take}
use mir.Syntax.{w32}
use mir.Val.{SFits}
use mir.Facts.{to_z-of_z}
use Rattle.rooms.specs.inner.Rooms.{said}
use Rattle.numbers.proofs.Buffers.{end_part}
use Rattle.perform.specs.inner.Prints.{asked_int, print_move, print_room}
use Rattle.perform.proofs.print.print_int.Goals as goal

pub returns : goal.returns
unfolding said asked_int print_move print_room
returns c =
    let f : SFits w32 (get_or c.args.live.now (length c.args.live.now - 1) (pos 0)) = search rules in
    let e = end_part (rw (to_z-of_z f) at c.put_decimal-from.ensures) in
    grind (arith, length-take {A = ℤ}, e)
