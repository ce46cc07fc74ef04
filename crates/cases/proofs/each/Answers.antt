-- `cases::each` meets its contract: at the cases before this one it went well. Assumes nothing.
use Rattle.std.proofs.Common.{◌<◌, [], Ok, length, take, get_or, arith, of_calls}
use Rattle.std.proofs.lemmas.Fn.{FoldsTo-push}
use Rattle.std.proofs.lemmas.List.{take_more}
use Rattle.std.proofs.lemmas.Result.{err_from_is_err_and}
use lib.Seq.{take_all}
use Rattle.cases.specs.Cases.{marks, in_order}
use Rattle.cases.specs.Each.{Gives, AllWell, FirstFault}
use Rattle.cases.proofs.Laws.{in_order_length, in_order_at}
use Rattle.cases.proofs.each.Goals as goal

pub loop-i-preserved : goal.loop-i-preserved
loop-i-preserved g c =
    let cases = in_order c.args.mark c.args.cases.now in
    let here : c.loop-i.i < marks c.args.mark c.args.cases.now = rw (← c.count-i-end.ensures) c.loop-i-test.true in
    let within : c.loop-i.i < length cases = rw (in_order_length c.args.mark c.args.cases.now) here in
    let at = in_order_at c.args.mark c.args.cases.now c.nth.result.now c.loop-i.i here c.nth.ensures in
    (search of_calls, rw (take_more cases c.loop-i.i [] within) (FoldsTo-push (Gives (goal.F-step g) (Ok tt)) c.args.f (take c.loop-i.i cases) c.loop-i.f (get_or cases c.loop-i.i []) c.f.new.self c.loop-i.invariant.1 (c.nth.result, at, c.in_ok-f.ensures)))

pub returns-in_err-f-clause-fault : goal.returns-in_err-f-clause-fault
unfolding FirstFault
returns-in_err-f-clause-fault g c =
    let cases = in_order c.args.mark c.args.cases.now in
    let here : c.loop-i.i < marks c.args.mark c.args.cases.now = rw (← c.count-i-end.ensures) c.loop-i-test.true in
    let within : c.loop-i.i < length cases = rw (in_order_length c.args.mark c.args.cases.now) here in
    let at = in_order_at c.args.mark c.args.cases.now c.nth.result.now c.loop-i.i here c.nth.ensures in
    let p = err_from_is_err_and c.from_residual.result c.from_residual.ensures.1 in
    rw (p.1, p.2) (c.loop-i.i, within, c.loop-i.f, c.loop-i.invariant.1, (c.f.new.self, (c.nth.result, at, c.in_err-f.ensures)))

pub returns-clause-all : goal.returns-clause-all
unfolding AllWell
returns-clause-all g c = (c.loop-i.f, rw (take_all c.loop-i.i (in_order c.args.mark c.args.cases.now) (omega (arith, c.count-i-end.ensures, in_order_length c.args.mark c.args.cases.now))) at c.loop-i.invariant.1)
