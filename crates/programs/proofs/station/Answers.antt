-- `programs::station` meets its contract. Assumes nothing.
use Rattle.tells.specs.Tells.{said_of_run}
use Rattle.compiler.proofs.Judging.{with_answer}
use Rattle.programs.proofs.Tellings.{tells}
use Rattle.programs.proofs.station.Goals as goal

pub returns : goal.returns
returns c = with_answer c.lesson-came.ensures (λ a g x. tells said_of_run x c.tell.ensures)
