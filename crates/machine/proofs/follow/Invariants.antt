use mathlib.Core.Path.{◌≡◌}
use Prim.Native.Nat.{◌-◌}
use Rattle.rules.specs.Machine as M
use Rattle.machine.specs.inner.Coded.{machine_of, Good}
use Rattle.machine.specs.Promise.{lends}
use Rattle.machine.proofs.follow.Given as goal

abbrev pub invariant-loop-steps : goal.invariant-loop-steps
invariant-loop-steps l =
    let given = lends l.lent.text.now l.lent.table.now l.lent.readings.now l.initial.stack l.initial.out in
    record {
      good : Good given l.initial.out l.s l.stack l.out;
      again : M.run given (l.budget - l.steps) (machine_of l.s l.stack l.out) ≡ M.run given l.budget M.fresh;
    }
