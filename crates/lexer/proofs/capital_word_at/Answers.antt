-- The run ends within the text. Assumes nothing.
use Rattle.std.proofs.Common.{arith}
use Rattle.base.specs.Bytes.{letter}
use Rattle.base.proofs.Runs.{run_within, begins_within}
use Rattle.lexer.proofs.capital_word_at.Goals as goal

pub slice_bounds-capital_word-end : goal.slice_bounds-capital_word-end
slice_bounds-capital_word-end c =
    let text = c.args.text.now in
    let p = c.args.p in
    run_within _ text p _ (omega (arith, begins_within letter text p c.requires.0)) c.such_run_end-e.ensures.end
