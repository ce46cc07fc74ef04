-- `lines::put_many` meets its contract. The loop's invariant: with the times that are left, all are added. Assumes nothing.
use Rattle.std.proofs.Common.{arith}
use native.Mathlib.Nat.{sub-zero}
use Rattle.lines.proofs.Adds.{leads_start, leads_on, leads_out, adds_within}
use Rattle.lines.proofs.Times.{times_on, times_out}
use Rattle.lines.proofs.put_many.Goals as goal

pub loop-init : goal.loop-init
loop-init c = (rw (sub-zero c.args.n) (leads_start _ _ _ _ c.min-next.ensures), omega (arith, c.min-next.ensures))

pub loop-preserved : goal.loop-preserved
loop-preserved c = (leads_on _ (times_on c.args.piece.now c.args.n c.loop.counter c.loop-test.true) c.put-next.ensures c.loop.invariant.0, adds_within c.put-next.ensures)

pub returns : goal.returns
returns c = leads_out c.loop.invariant.1 (rw (times_out c.args.piece.now c.args.n c.loop.counter c.loop-test.false) at c.loop.invariant.0)
