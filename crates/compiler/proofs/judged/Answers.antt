-- `compiler::judged` meets its contract. Assumes nothing.
use mathlib.Core.Path.{sym, ◌∙◌}
use native.Mathlib.Omega.{arith}
use borrow.Author.Tests.{ltb-false}
use Rattle.std.proofs.lemmas.Result.{err_from_is_err_and}
use Rattle.compiler.proofs.Decides.{by_length, by_bytes, by_sentences}
use Rattle.compiler.proofs.judged.Goals as goal

pub returns-then-too_long : goal.returns-then-too_long
returns-then-too_long c = by_length _ _ (sym c.too_long.ensures ∙ c.if-too_long.true)

pub measured-requires : goal.measured-requires
measured-requires c = ltb-false _ _ (sym c.too_long.ensures ∙ c.if-too_long.false)

pub returns-in_err-scan : goal.returns-in_err-scan
returns-in_err-scan c = let p = err_from_is_err_and c.from_residual.result c.from_residual.ensures.1 in rw (p.1, p.2) (by_bytes _ _ (sym c.too_long.ensures ∙ c.if-too_long.false) c.in_err-scan.ensures)

pub returns : goal.returns
returns c = by_sentences _ _ (sym c.too_long.ensures ∙ c.if-too_long.false) c.in_ok-scan.ensures (omega arith) _ c.measured.ensures
