-- The run ends within the text. Assumes nothing.
use Rattle.std.proofs.Common.{arith}
use Rattle.base.specs.Bytes.{digit}
use Rattle.base.proofs.Runs.{run_within, begins_within}
use Rattle.lexer.proofs.digits_at.Goals as goal

pub slice_bounds-value_of-end : goal.slice_bounds-value_of-end
slice_bounds-value_of-end c =
    let text = c.args.text.now in
    let p = c.args.p in
    run_within _ text p _ (omega (arith, begins_within digit text p c.requires)) c.such_run_end-e.ensures.end
