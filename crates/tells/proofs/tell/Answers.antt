-- `tells::tell` meets its contract. Assumes nothing.
use Rattle.std.proofs.Common.{◌+◌, ◌≤◌, length, arith, rules}
use Rattle.lines.proofs.Adds.{adds_then}
use Rattle.lines.proofs.Short.{Small}
use Rattle.tells.specs.Tells.{said_of_run}
use Rattle.tells.specs.Writes.{with_output}
use Rattle.tells.proofs.Pages.{refusal_written}
use Rattle.tells.proofs.Told.{told_ran, told_short}
use Rattle.tells.proofs.tell.Goals as goal

pub returns-in-Err : goal.returns-in-Err
unfolding said_of_run with_output
returns-in-Err c =
    let p : Small c.in-Err.r.place = search rules in
    let l : 96 ≤ length c.args.page.now = search rules in
    rw c.in-Err.is (refusal_written c.in-Err.r l p c.tell_refusal.ensures.line c.tell_refusal.ensures.rest)

pub returns-in-Ok : goal.returns-in-Ok
returns-in-Ok c =
    let r = c.in-Ok.r in
    let e : Small r.ending = search rules in
    let n : Small r.steps = search rules in
    let l : length c.args.room.now + 96 ≤ length c.args.page.now = search rules in
    rw c.in-Ok.is (told_ran c.args.room.now r c.status_of.result c.status_of.ensures
    (omega (arith, told_short r.length r.ending r.steps c.args.room.now e n, l))
    (adds_then (adds_then (rw c.output.ensures at c.put-a.ensures) c.put-b.ensures) c.ending.ensures))
