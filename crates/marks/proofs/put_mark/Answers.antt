-- `marks::put_mark` meets its contract. Assumes nothing.
use Rattle.std.proofs.Common.{◌≤◌, length, arith}
use Rattle.base.specs.Bytes.{bytes, bytes_from}
use Rattle.lines.proofs.Adds.{adds_then}
use Rattle.lines.proofs.Forms.{bit}
use Rattle.place.specs.Places.{begins, count}
use Rattle.place.proofs.Places.{count_fits}
use Rattle.marks.specs.Shown.{mark}
use Rattle.marks.proofs.Shown.{spaces}
use Rattle.marks.proofs.put_mark.Goals as goal

pub overflow_add-cells-2 : goal.overflow_add-cells-2
overflow_add-cells-2 c = let few : c.count_such.result ≤ length c.args.before.now = rw c.count_such.ensures (count_fits _ _) in omega (arith, bit c.args.front)

pub returns : goal.returns
unfolding mark bytes bytes_from
returns c = adds_then (rw (c.count_such.ensures, spaces c.args.front (count begins c.args.before.now)) at c.put_many-a.ensures) c.put.ensures
