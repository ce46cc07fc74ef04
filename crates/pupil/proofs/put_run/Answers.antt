-- `pupil::put_run` meets its contract. Assumes nothing.
use borrow.Author.Rules.{rules}
use Rattle.lines.proofs.Adds.{adds_then}
use Rattle.lines.proofs.Short.{Small}
use Rattle.pupil.specs.Shows.{shown_run}
use Rattle.pupil.proofs.Short.{short_run}
use Rattle.pupil.proofs.put_run.Goals as goal

pub returns : goal.returns
unfolding shown_run
returns c =
    let e : Small c.args.r.ending = search rules in
    let s : Small c.args.r.steps = search rules in
    let b : Small c.args.n.budget = search rules in
    record { added = adds_then (adds_then (adds_then c.put_output-a.ensures c.put_steps-b.ensures) c.put_how-c.ensures.added) c.put_byte.ensures; short = short_run c.args.n (record { ending = c.args.r.ending; steps = c.args.r.steps; used = c.args.r.used; output = c.args.output.now }) e s b c.put_how-c.ensures.short }
