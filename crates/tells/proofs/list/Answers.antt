-- `tells::list` meets its contract. Assumes nothing.
use Rattle.std.proofs.Common.{◌+◌, ◌*◌, ◌/◌, ◌≤◌, length, arith, rules}
use Rattle.lines.proofs.Adds.{adds_then}
use Rattle.lines.proofs.Short.{Small}
use Rattle.tells.specs.Tells.{said_of_answer}
use Rattle.tells.proofs.Pages.{refusal_written}
use Rattle.tells.proofs.Listings.{listed_accepted, listing_short}
use Rattle.tells.proofs.list.Goals as goal

pub returns-in-Err : goal.returns-in-Err
unfolding said_of_answer
returns-in-Err c =
    let p : Small c.in-Err.r.place = search rules in
    let l : 96 ≤ length c.args.page.now = search rules in
    rw c.in-Err.is (refusal_written c.in-Err.r l p c.tell_refusal.ensures.line c.tell_refusal.ensures.rest)

pub returns-in-Ok : goal.returns-in-Ok
returns-in-Ok c =
    let hi : Small c.in-Ok.c.instructions = search rules in
    let hc : Small c.in-Ok.c.cells = search rules in
    let hm : Small c.in-Ok.c.need = search rules in
    let l : 96 + length c.args.table.now / 2 * 65 ≤ length c.args.page.now = search rules in
    let all = rw c.code.ensures at c.instructions.ensures in
    rw c.in-Ok.is (listed_accepted c.args.table.now c.in-Ok.c (omega (arith, listing_short _ _ _ (c.in-Ok.c.instructions * 2) c.args.table.now hi hc hm all.short, l)) (adds_then c.accepted-at.ensures all.added))
