-- What is said of a copy as the code gives it: its bytes stand first in the room.
use Rattle.std.specs.Prelude.{List, ℕ, take, Result, Ok, Err}
use Rattle.tidy.specs.declared.Uncopied.{Uncopied}
use Rattle.tidy.specs.declared.Uncopied.TheVariants.{Refused, NoRoom}
use Rattle.tells.specs.Tells.{Said, refusal}
use Rattle.programs.specs.Programs.{copy, no_copy}

unfoldable pub said_of_copy : Result ℕ Uncopied → List ℕ → Said
said_of_copy (Ok n) room = copy (take n room)
said_of_copy (Err (Refused r)) room = refusal r.why r.place
said_of_copy (Err NoRoom) room = no_copy
