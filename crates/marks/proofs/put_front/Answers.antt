-- `marks::put_front` meets its contract. Assumes nothing.
use Rattle.base.specs.Bytes.{bytes, bytes_from}
use Rattle.lines.proofs.Adds.{adds_then}
use Rattle.marks.proofs.put_front.Goals as goal

pub returns : goal.returns
unfolding bytes bytes_from
returns c = adds_then (adds_then c.put-a.ensures c.put_only-b.ensures) c.put_seen.ensures
