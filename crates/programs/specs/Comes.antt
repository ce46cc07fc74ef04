-- What the code promises of the room that it is lent, and of what it says of a run and of a copy.
use Rattle.std.specs.Prelude.{◌≡◌, List, [], ℕ, Result, Ok, Err}
use Rattle.limits.specs.Limits.{Limits}
use Rattle.base.specs.declared.Refusal.{Refusal}
use Rattle.base.specs.declared.Refused.{Refused}
use Rattle.base.specs.Answers.{Answer, given, refused}
use Rattle.rules.specs.Machine.{Report, room_after}
use Rattle.machine.specs.Promise.{Reported}
use Rattle.machine.specs.declared.Report as Code
use Rattle.compiler.specs.Compiled.{Judged, WithAnswer}
use Rattle.tells.specs.Tells as T
use Rattle.tells.specs.Writes.{Writes}
use Rattle.tells.specs.declared.Said.{Said}
use Rattle.programs.specs.Programs.{copied}

-- what came of a text, and the room after its run
pub data Comes (room : List ℕ) : Answer Report → Result Code.Report Refused → List ℕ → Type 0 where
  refused_so : (why : Refusal) (p : ℕ) → Comes room (refused why p) (Err (record { why = why; place = p })) room
  ran : (w : Report) (r : Code.Report) {room' : List ℕ} → Reported w room r room' → Comes room (given w) (Ok r) room'

-- a refused text leaves the room as it was
unfoldable pub room_left : Answer Report → List ℕ → List ℕ
room_left (given w) room = room_after w.output room
room_left (refused why p) room = room

-- what is said of what came, and the room after the run
pub record Tells (say : Answer Report → T.Said) (a : Answer Report) (room : List ℕ) (r : Said) (room' out out' err err' : List ℕ) : Type 0 where
  pub says : Writes (say a) r out out' err err'
  pub after : room' ≡ room_left a room

-- what is said of a text's copy
abbrev pub Copies : Limits → List ℕ → Said → List ℕ → List ℕ → Type 0
Copies limits text r page page' = WithAnswer (Judged limits text) (λ a. Writes (copied limits text a) r page page' [] [])
