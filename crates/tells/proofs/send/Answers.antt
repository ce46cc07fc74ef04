-- `tells::send` meets its contract. Assumes nothing.
use Rattle.std.proofs.Common.{◌≤◌, length, arith, rules}
use Rattle.lines.proofs.Short.{Small, short_refused, short_ending}
use Rattle.tells.proofs.Pages.{output_short}
use Rattle.tells.proofs.Told.{sent_refused, sent_ran, sent_not}
use Rattle.tells.proofs.send.Goals as goal

pub returns-in-Err : goal.returns-in-Err
returns-in-Err c =
    let p : Small c.in-Err.r.place = search rules in
    let l : 96 ≤ length c.args.note.now = search rules in
    rw c.in-Err.is (sent_refused c.args.room.now c.in-Err.r (omega (arith, short_refused c.in-Err.r.why c.in-Err.r.place p, l)) c.refused.ensures)

pub returns-in-0 : goal.returns-in-0
returns-in-0 c =
    let r = c.in-Ok.r in
    let l : length c.args.room.now ≤ length c.args.page.now = search rules in
    let few = output_short r.length c.args.room.now in
    let all = rw (c.to_send.ensures, c.output-all.ensures) at c.put-out.ensures in
    rw c.in-Ok.is (sent_ran c.args.room.now r (omega arith) all (rw c.in-0.is))

pub returns-in_default : goal.returns-in_default
returns-in_default c =
    let r = c.in-Ok.r in
    let l : length c.args.room.now ≤ length c.args.page.now = search rules in
    let few = output_short r.length c.args.room.now in
    let all = rw (c.to_send.ensures, c.output-all.ensures) at c.put-out.ensures in
    let e : Small r.ending = search rules in
    let n : Small r.steps = search rules in
    let k : 96 ≤ length c.args.note.now = search rules in
    rw c.in-Ok.is (sent_not c.args.room.now r (omega arith) all (λ z. omega arith) (omega (arith, short_ending r.ending r.steps e n, k)) c.ending.ensures)
