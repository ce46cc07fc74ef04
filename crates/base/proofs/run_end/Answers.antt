-- `base::run_end` meets its contract. Assumes nothing.
use Rattle.std.proofs.Common.{arith, refl, sym, ◌∙◌}
use Rattle.base.proofs.Runs.{run_on, run_stop, run_out}
use Rattle.base.proofs.run_end.Goals as goal
use Rattle.base.proofs.run_end.Goals.{then-loop-end-test+else-is_such, else-loop-end-test}

pub loop-end-init : goal.loop-end-init
loop-end-init g c = record { onward = omega arith; same = λ such t. refl }

pub loop-end-preserved : goal.loop-end-preserved
loop-end-preserved g c = record {
  onward = omega arith;
  same = λ such agrees. run_on such _ c.loop-end.end c.loop-end-test.true (sym (agrees _ _ c.is_such.ensures) ∙ c.if-is_such.true) ∙ c.loop-end.invariant.same such agrees;
}

pub returns-clause-end : goal.returns-clause-end
returns-clause-end g c such agrees =
    elim c.loop-end-test.branch [
      | then-loop-end-test+else-is_such w ↦ run_stop such _ c.loop-end.end w.loop-end-test.true (sym (agrees _ _ w.is_such.ensures) ∙ w.if-is_such.false) ∙ c.loop-end.invariant.same such agrees
      | else-loop-end-test w ↦ run_out such _ _ w.loop-end-test.false ∙ c.loop-end.invariant.same such agrees
    ]

pub returns-clause-onward : goal.returns-clause-onward
returns-clause-onward g c = omega (arith, c.loop-end.invariant.onward)
