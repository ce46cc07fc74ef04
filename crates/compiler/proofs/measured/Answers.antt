-- `compiler::measured` meets its contract. Assumes nothing.
use native.Mathlib.Omega.{arith}
use Rattle.std.proofs.lemmas.Result.{err_from_is_err_and}
use Rattle.compiler.proofs.Decides.{set_out, measured_within, counted, by_reading, by_naming}
use borrow.Author.Rules.{rules}
use Rattle.compiler.proofs.measured.Goals as goal

pub program-requires : goal.program-requires
program-requires c = set_out _ c.start.ensures (omega (arith, c.requires)) (omega arith) (search rules) (search rules)

pub returns-in_err-r : goal.returns-in_err-r
returns-in_err-r c = let p = err_from_is_err_and c.from_residual.result c.from_residual.ensures.1 in rw (p.1, p.2) (measured_within _ c.start.ensures _ (search rules) _ _ _ _ (by_reading _ _ _ _ c.in_err-r.ensures))

pub overflow_add-cells : goal.overflow_add-cells
overflow_add-cells c = let k = counted (set_out _ c.start.ensures (omega (arith, c.requires)) (omega arith) (search rules) (search rules)) c.in_ok-r.ensures in rw c.counts-cells.ensures (omega (arith, k.few, k.need))

pub returns : goal.returns
returns c = measured_within _ c.start.ensures _ (search rules) _ _ _ _ (by_naming _ _ _ _ (set_out _ c.start.ensures (omega (arith, c.requires)) (omega arith) (search rules) (search rules)) c.in_ok-r.ensures _ (rw c.counts-cells.ensures at c.settled.ensures))
