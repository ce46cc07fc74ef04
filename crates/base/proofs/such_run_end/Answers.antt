-- `base::such_run_end` meets its contract. Assumes nothing.
use Rattle.std.proofs.Common.{arith, sym, ◌∙◌}
use Rattle.base.proofs.Runs.{run_on, run_stop, run_out}
use Rattle.base.proofs.such_run_end.Goals as goal

pub loop-end-preserved : goal.loop-end-preserved
loop-end-preserved g c = record {
  onward = omega arith;
  same = run_on _ _ c.loop-end.end c.loop-end-test.true (sym c.is_such.ensures ∙ c.if-is_such.true) ∙ c.loop-end.invariant.same;
}

pub returns-else-is_such-clause-end : goal.returns-else-is_such-clause-end
returns-else-is_such-clause-end g c = run_stop _ _ c.loop-end.end c.loop-end-test.true (sym c.is_such.ensures ∙ c.if-is_such.false) ∙ c.loop-end.invariant.same

pub returns-after-loop-end-clause-end : goal.returns-after-loop-end-clause-end
returns-after-loop-end-clause-end g c = run_out _ _ _ c.loop-end-test.false ∙ c.loop-end.invariant.same
