-- `run` meets its contract. Assumes nothing.
use mathlib.Core.Path.{ap, ◌∙◌}
use Rattle.rules.specs.Machine.{stack_after}
use Rattle.machine.proofs.run.Goals as goal

pub returns : goal.returns
unfolding stack_after
returns c = record { reported = c.follow-r.ensures; stack = c.clear.ensures ∙ ap stack_after c.follow-r.auto.stack }
