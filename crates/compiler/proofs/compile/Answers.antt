-- `compiler::compile` meets its contract. Assumes nothing.
use native.Mathlib.Omega.{arith}
use Rattle.std.proofs.lemmas.Result.{err_from_is_err_and}
use Rattle.compiler.proofs.Decides.{by_judging, by_room, may_write, by_none}
use Rattle.compiler.proofs.compile.Goals as goal

pub returns-in_err-counts : goal.returns-in_err-counts
returns-in_err-counts c = let p = err_from_is_err_and c.from_residual.result c.from_residual.ensures.1 in rw (p.1, p.2) (by_judging _ _ _ _ c.clear.ensures c.in_err-counts.ensures)

pub returns-then-table-counts : goal.returns-then-table-counts
returns-then-table-counts c = by_room _ _ _ _ c.clear.ensures c.in_ok-counts.ensures (omega arith)

pub write-requires : goal.write-requires
write-requires c = may_write _ _ c.in_ok-counts.ensures

pub returns : goal.returns
returns c = by_none _ _ _ _ c.clear.ensures c.in_ok-counts.ensures (omega arith) (omega arith) _ c.write.ensures
