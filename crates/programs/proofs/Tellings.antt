-- What station and feed say, from what `lesson`, `tell` and `send` promise. Assumes nothing.
use mathlib.Core.Path.{◌≡◌, refl, sym}
use mathlib.Core.List.{List}
use Prim.Native.Nat.{ℕ}
use lib.ListN.{length, take, drop}
use lib.Seq.{take_at}
use Rattle.base.specs.Answers.{Answer}
use Rattle.rules.specs.Machine.{Report, room_after}
use Rattle.machine.specs.declared.Report as Code
use Rattle.base.specs.declared.Refused.{Refused}
use Rattle.std.specs.Prelude.{Result}
use Rattle.tells.specs.Tells as T
use Rattle.tells.specs.Writes.{Writes, with_output}
use Rattle.tells.specs.declared.Said.{Said}
use Rattle.programs.specs.Comes as S
use Rattle.programs.specs.Comes.{Comes, room_left, Tells}

module _ {room : List ℕ} where
  -- what came, with its output in the room
  comes_output : {a : Answer Report} {c : Result Code.Report Refused} {room' : List ℕ} → Comes room a c room' → with_output c room' ≡ a
  unfolding with_output room_after
  comes_output (S.refused_so why p) = refl
  comes_output (S.ran w r {room'} x) =
      let e : take r.length room' ≡ w.output = rw x.room (take_at w.output (drop (length w.output) room) r.length (sym x.size)) in
      rw (x.ending, x.steps, x.used, e)

  comes_room : {a : Answer Report} {c : Result Code.Report Refused} {room' : List ℕ} → Comes room a c room' → room' ≡ room_left a room
  unfolding room_left
  comes_room (S.refused_so why p) = refl
  comes_room (S.ran w r x) = x.room

  pub tells : (say : Answer Report → T.Said) {a : Answer Report} {c : Result Code.Report Refused} {r : Said} {room' out out' err err' : List ℕ} → Comes room a c room' → Writes (say (with_output c room')) r out out' err err' → Tells say a room r room' out out' err err'
  tells say x s = record { says = rw (comes_output x) at s; after = comes_room x }
