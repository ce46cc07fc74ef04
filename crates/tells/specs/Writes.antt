-- What the code promises of the pages that it is lent.
use Rattle.std.specs.Prelude.{◌≡◌, List, ℕ, length, take, Result, Ok, Err}
use Rattle.base.specs.declared.Refused.{Refused}
use Rattle.base.specs.Answers.{Answer, given, refused}
use Rattle.rules.specs.Machine.{Report, room_after}
use Rattle.machine.specs.declared.Report as Code
use Rattle.tells.specs.Tells as T
use Rattle.tells.specs.declared.Said.{Said}
use Rattle.tells.specs.declared.Status.{Status}
use Rattle.tells.specs.declared.Status.TheVariants.{Good, NotGood}

-- the number that the shell hears
abbrev pub number : Status → ℕ
number Good = T.good
number NotGood = T.not_good

-- what is said stands first on each page, and what stood past it is as it was
pub record Writes (s : T.Said) (r : Said) (out out' err err' : List ℕ) : Type 0 where
  pub written : r.out ≡ length s.out
  pub page : out' ≡ room_after s.out out
  pub noted : r.err ≡ length s.err
  pub note : err' ≡ room_after s.err err
  pub status : number r.status ≡ s.status

-- what came, with the output that stands in the room
unfoldable pub with_output : Result Code.Report Refused → List ℕ → Answer Report
with_output (Ok r) room = given (record { ending = r.ending; steps = r.steps; used = r.used; output = take r.length room })
with_output (Err r) room = refused r.why r.place
