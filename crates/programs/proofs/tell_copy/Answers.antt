-- `programs::tell_copy` meets its contract. Assumes nothing.
use Rattle.std.proofs.Common.{◌≡◌}
use Rattle.std.specs.Prelude.{Err}
use Rattle.tidy.specs.declared.Uncopied.TheVariants.{Refused, NoRoom}
use Prim.Native.Nat.{◌+◌, ◌≤◌}
use native.Mathlib.Omega.{arith}
use lib.ListN.{length}
use Rattle.lines.proofs.Adds.{adds_then}
use Rattle.lines.proofs.Short.{Small, short_refusal}
use Rattle.tells.proofs.Pages.{refusal_written}
use Rattle.tidy.specs.Tidy.{no_room}
use Rattle.programs.specs.inner.Copies.{said_of_copy}
use Rattle.programs.proofs.Copies.{told_no_room, told_copied}
use borrow.Author.Rules.{rules}
use Rattle.programs.proofs.tell_copy.Goals as goal

pub returns-in-Err-Refused : goal.returns-in-Err-Refused
unfolding said_of_copy
returns-in-Err-Refused c =
    let is : c.args.copied ≡ Err (Refused c.in-Err-Refused.r) = search rules in
    let p : Small c.in-Err-Refused.r.place = search rules in
    let l : 96 ≤ length c.args.page.now = search rules in
    rw is (refusal_written c.in-Err-Refused.r l p c.tell_refusal.ensures.line c.tell_refusal.ensures.rest)

pub returns-in-Err-NoRoom : goal.returns-in-Err-NoRoom
returns-in-Err-NoRoom c =
    let is : c.args.copied ≡ Err NoRoom = search rules in
    let l : 96 ≤ length c.args.page.now = search rules in
    told_no_room c.args.room.now is (omega (arith, short_refusal no_room 0 (omega arith) (omega arith), l)) c.refusal.ensures

pub returns-in-Ok : goal.returns-in-Ok
returns-in-Ok c =
    let l : length c.args.room.now + 1 ≤ length c.args.page.now = search rules in
    told_copied c.args.room.now c.in-Ok.is l (adds_then (rw c.output.ensures at c.put-at.ensures) c.put.ensures)
