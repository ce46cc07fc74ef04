-- `lines::fill` meets its contract. The loop's invariant: with the rest of the form and the numbers that are left, all of it is added. Assumes nothing.
use Rattle.std.proofs.Common.{arith}
use Rattle.lines.proofs.Adds.{leads_start, leads_on, leads_out, adds_within}
use Rattle.lines.proofs.Forms.{sign_on, byte_on, filled_out, next_number}
use Rattle.lines.proofs.fill.Goals as goal
use Rattle.lines.proofs.fill.Goals.{in-35, in_default}

pub loop-b-init : goal.loop-b-init
loop-b-init c = (rw c.iter-left.ensures.rest (leads_start _ _ _ _ c.min-next.ensures), omega (arith, c.min-next.ensures))

pub loop-b-preserved : goal.loop-b-preserved
loop-b-preserved c = elim c.match-b.branch [
  | in-35 w ↦
      let n = next_number _ _ _ w.next.ensures.steps in
      rw (w.page-is, w.next-is, w.left-is, n.1) (leads_on _ (sign_on c.args.form.now _ c.loop-b.b-index (omega arith) w.in-35.is) (rw (w.unwrap_or.ensures, w.copied.ensures, n.0) at w.put_natural-next.ensures) c.loop-b.invariant.0, adds_within w.put_natural-next.ensures)
  | in_default w ↦
      rw (w.page-is, w.next-is, w.left-is) (leads_on _ (byte_on c.args.form.now _ c.loop-b.b-index (omega arith) (λ e. omega arith)) w.put_byte-next.ensures c.loop-b.invariant.0, adds_within w.put_byte-next.ensures)
]

pub returns : goal.returns
returns c = leads_out c.loop-b.invariant.1 (rw (filled_out c.args.form.now _ c.loop-b.b-index c.loop-b-test.false) at c.loop-b.invariant.0)
