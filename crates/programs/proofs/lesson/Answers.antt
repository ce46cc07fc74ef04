-- `programs::lesson` meets its contract. Assumes nothing.
use mathlib.Core.Path.{refl}
use Rattle.programs.proofs.Lessons.{comes_so}
use Rattle.programs.proofs.lesson.Goals as goal

pub returns : goal.returns
returns c = comes_so _ _ _ _ _ _ refl c.run_text.ensures
