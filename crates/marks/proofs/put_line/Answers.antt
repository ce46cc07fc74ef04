-- `marks::put_line` meets its contract. Assumes nothing.
use Rattle.base.specs.Bytes.{bytes, bytes_from}
use Rattle.lines.proofs.Adds.{adds_then}
use Rattle.marks.specs.Shown.{line}
use Rattle.marks.proofs.put_line.Goals as goal

pub returns : goal.returns
unfolding line bytes bytes_from
returns c = adds_then (adds_then (adds_then c.put_front-a.ensures c.put_seen-b.ensures) c.put_only-c.ensures) c.put_byte.ensures
