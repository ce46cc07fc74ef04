-- `programs::feed` meets its contract. Assumes nothing.
use Rattle.tells.specs.Tells.{sent}
use Rattle.compiler.proofs.Judging.{with_answer}
use Rattle.programs.proofs.Tellings.{tells}
use Rattle.programs.proofs.feed.Goals as goal

pub returns : goal.returns
returns c = with_answer c.lesson-came.ensures (λ a g x. tells sent x c.send.ensures)
