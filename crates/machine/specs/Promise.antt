-- What a run promises: each number of its report, each cell of the stack and each byte of the room.
use Rattle.std.specs.Prelude.{◌≡◌, List, ℕ, ℤ, length}
use Rattle.rules.specs.Machine.{Lent, Report, room_after, stack_after}
use Rattle.machine.specs.declared.Report as Code

-- what is lent, by its contents
abbrev pub lends : List ℕ → List ℤ → List ℤ → List ℤ → List ℕ → Lent
lends text table readings stack room = record { text = text; table = table; readings = readings; cells = length stack; room = length room }

-- the code's report r, and the room after the run, are those of the report w
pub record Reported (w : Report) (before : List ℕ) (r : Code.Report) (after : List ℕ) : Type 0 where
  pub ending : r.ending ≡ w.ending
  pub steps : r.steps ≡ w.steps
  pub used : r.used ≡ w.used
  pub size : r.length ≡ length w.output
  pub room : after ≡ room_after w.output before

-- and the stack is all zeros
pub record Ran (w : Report) (cells : List ℤ) (before : List ℕ) (r : Code.Report) (cells' : List ℤ) (after : List ℕ) : Type 0 where
  pub reported : Reported w before r after
  pub stack : cells' ≡ stack_after (length cells)
