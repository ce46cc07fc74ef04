-- `pupil::show` meets its contract. Assumes nothing.
use Rattle.std.proofs.Common.{◌+◌, ◌≤◌, length, arith, rules}
use Rattle.tells.proofs.Pages.{output_short}
use Rattle.pupil.proofs.Shows.{shown_refused, shown_ran}
use Rattle.pupil.proofs.show.Goals as goal

pub returns-in-Err : goal.returns-in-Err
returns-in-Err c =
    let l : 512 ≤ length c.args.page.now = search rules in
    rw c.in-Err.is (shown_refused _ c.args.n c.args.text.now c.args.room.now c.in-Err.r (omega (arith, c.put_refusal.ensures.short, l)) c.put_refusal.ensures.added)

pub returns-in-Ok : goal.returns-in-Ok
returns-in-Ok c =
    let l : length c.args.room.now + 512 ≤ length c.args.page.now = search rules in
    let x = rw c.output.ensures at c.put_run.ensures in
    rw c.in-Ok.is (shown_ran _ c.args.n c.args.text.now c.args.room.now c.in-Ok.r c.status_of.result c.status_of.ensures (omega (arith, x.short, output_short c.in-Ok.r.length c.args.room.now, l)) x.added)
