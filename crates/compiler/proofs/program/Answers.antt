-- `compiler::program` meets its contract. Assumes nothing.
use Rattle.lexeme.specs.inner.Coded.{code_of}
use native.Mathlib.Omega.{arith}
use Rattle.std.proofs.lemmas.Result.{err_from_is_err_and}
use Rattle.compiler.proofs.Looked.{met_ahead, not_met}
use Rattle.compiler.proofs.Programs.{begun, not_lexed, not_begun, begun_ready, command_refused, not_ended, whole_read}
use Rattle.compiler.proofs.program.Goals as goal

pub advance-requires : goal.advance-requires
advance-requires c = rw c.start.ensures (omega arith)

pub returns-in_err-w : goal.returns-in_err-w
returns-in_err-w c = let p = err_from_is_err_and c.from_residual.result c.from_residual.ensures.1 in rw (p.1, p.2) (not_lexed _ c.args.code _ (rw c.start.ensures at c.in_err-w.ensures))

pub returns-in_err-x : goal.returns-in_err-x
unfolding code_of
returns-in_err-x c = let p = err_from_is_err_and c.from_residual-in_err-x.result c.from_residual-in_err-x.ensures.1 in rw (p.1, p.2) (not_begun {place = c.args.code} _ (rw c.start.ensures at c.in_ok-w.ensures) c.in_err-x.ensures)

pub command-requires : goal.command-requires
unfolding code_of
command-requires c = begun_ready (begun c.requires (rw c.start.ensures at c.in_ok-w.ensures) c.in_ok-x.ensures) _ (omega arith)

pub returns-in_err-r : goal.returns-in_err-r
unfolding code_of
returns-in_err-r c = let p = err_from_is_err_and c.from_residual-in_err-r.result c.from_residual-in_err-r.ensures.1 in rw (p.1, p.2) (command_refused (begun c.requires (rw c.start.ensures at c.in_ok-w.ensures) c.in_ok-x.ensures) _ c.in_err-r.ensures)

pub returns-then-not-is_ahead : goal.returns-then-not-is_ahead
unfolding code_of
returns-then-not-is_ahead c = rw c.refused_ahead.ensures (not_ended (begun c.requires (rw c.start.ensures at c.in_ok-w.ensures) c.in_ok-x.ensures) _ c.in_ok-r.ensures (not_met c.is_ahead.ensures c.if-not-is_ahead.true))

pub returns : goal.returns
unfolding code_of
returns c = whole_read (begun c.requires (rw c.start.ensures at c.in_ok-w.ensures) c.in_ok-x.ensures) _ c.in_ok-r.ensures (met_ahead c.is_ahead.ensures c.if-not-is_ahead.false)
