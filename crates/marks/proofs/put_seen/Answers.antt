-- `marks::put_seen` meets its contract. The loop's invariant: with the bytes that are left, all are added. Assumes nothing.
use Rattle.std.proofs.Common.{arith}
use lib.ListN.{drop_of_length-le}
use Rattle.lines.proofs.Adds.{leads_start, leads_on, leads_out, adds_within}
use Rattle.marks.proofs.Shown.{seen_on}
use Rattle.marks.proofs.put_seen.Goals as goal

pub loop-b-init : goal.loop-b-init
loop-b-init c = (leads_start _ _ _ _ c.min-next.ensures, omega (arith, c.min-next.ensures))

pub loop-b-preserved : goal.loop-b-preserved
loop-b-preserved c = (leads_on _ (rw c.seen.ensures (seen_on c.args.bytes.now c.loop-b.b-index (omega arith))) c.put_byte-next.ensures c.loop-b.invariant.0, adds_within c.put_byte-next.ensures)

pub returns : goal.returns
returns c = leads_out c.loop-b.invariant.1 (rw (drop_of_length-le c.args.bytes.now c.loop-b-test.false) at c.loop-b.invariant.0)
