-- `follow` meets its contract. The loop's invariant: the state is good, and the run from here with the budget left is the run from the start. Assumes nothing.
use mathlib.Core.Path.{◌≡◌, refl, sym, ◌∙◌}
use Prim.Native.Nat.{suc, ◌-◌, ◌+◌}
use native.Mathlib.Nat.{sub-zero}
use native.Mathlib.Omega.{arith}
use lib.ListN.{length}
use Rattle.rules.specs.Machine as M
use Rattle.endings.specs.Endings.{budget_spent, number_of}
use Rattle.machine.specs.inner.Coded.{live, machine_of}
use Rattle.machine.specs.Promise.{lends}
use Rattle.rules.proofs.Runs.{run_goes, run_stops, even_table}
use Rattle.machine.proofs.Runs.{reported, not_run}
use Rattle.machine.proofs.follow.Goals as goal
use Rattle.machine.proofs.follow.Goals.{After-step}

-- what this run is lent
abbrev given : After-step → M.Lent
given c = lends c.args.lent.text.now c.args.lent.table.now c.args.lent.readings.now c.args.stack.now c.args.out.now

-- the budget that is left once the step is counted
rest : (c : After-step) → M.run (given c) (suc (c.args.budget - (c.loop-steps.steps + 1))) (machine_of c.loop-steps.s c.loop-steps.stack c.loop-steps.out) ≡ M.run (given c) c.args.budget M.fresh
rest c = let left : c.args.budget - c.loop-steps.steps ≡ suc (c.args.budget - (c.loop-steps.steps + 1)) = omega arith in rw (← left) c.loop-steps.invariant.again

pub returns-then-lent-ne0 : goal.returns-then-lent-ne0
returns-then-lent-ne0 c = rw c.ended.ensures (not_run _ c.args.budget c.args.out.now c.if-lent-ne0.true)

pub loop-steps-init : goal.loop-steps-init
unfolding live
loop-steps-init c = record {
  good = record { deep = omega arith; stack = refl; within = omega arith; size = refl; past = refl; whole = refl };
  again = rw (sub-zero c.args.budget);
}

pub made-s-requires : goal.made-s-requires
made-s-requires c = ((rw c.requires at (c.in-Ok.ensures (length c.args.out.now))) c.args.out.now c.loop-steps.invariant.good).left.0

pub loop-steps-preserved : goal.loop-steps-preserved
loop-steps-preserved c =
    let s = (goal.at.loop-steps-preserved c).After-step in
    let d = (rw c.requires at (c.in-Ok.ensures (length c.args.out.now))) c.args.out.now c.loop-steps.invariant.good in
    rw (c.made-s.ensures.state, c.made-s.ensures.cells) (record { good = d.left.1; again = sym (run_goes (given s) (c.args.budget - (c.loop-steps.steps + 1)) _ d.seen) ∙ rest s })

pub returns-in-Err : goal.returns-in-Err
returns-in-Err c =
    let s = (goal.at.returns-in-Err c).After-step in
    let d = (rw c.requires at (c.in-Err.ensures (length c.args.out.now))) c.args.out.now c.loop-steps.invariant.good in
    let n = c.args.budget - (c.loop-steps.steps + 1) in
    rw (c.ended-in-Err.ensures, d.left, even_table (given s) c.args.budget c.if-lent-ne0.false) (reported c.loop-steps.invariant.good c.args.budget (number_of c.in-Err.e) n (c.loop-steps.steps + 1) (M.run (given s) c.args.budget M.fresh) (sym (run_stops (given s) n _ d.seen) ∙ rest s) (omega arith))

pub returns : goal.returns
unfolding M.run
returns c =
    let none : c.args.budget - c.loop-steps.steps ≡ 0 = omega arith in
    rw (c.ended-2.ensures, even_table (lends c.args.lent.text.now c.args.lent.table.now c.args.lent.readings.now c.args.stack.now c.args.out.now) c.args.budget c.if-lent-ne0.false) (reported c.loop-steps.invariant.good c.args.budget budget_spent 0 c.args.budget _ (rw none at c.loop-steps.invariant.again) (omega arith))
