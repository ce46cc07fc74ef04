-- `compiler::write` meets its contract. Assumes nothing.
use native.Mathlib.Omega.{arith}
use Rattle.compiler.proofs.Decides.{set_out, written_within, not_written, written}
use borrow.Author.Rules.{rules}
use Rattle.compiler.proofs.write.Goals as goal

pub program-requires : goal.program-requires
program-requires c = set_out _ c.start.ensures (omega (arith, c.requires)) (omega (arith, c.requires)) (search rules) (search rules)

pub returns-in_default : goal.returns-in_default
returns-in_default c = written_within _ c.start.ensures _ (search rules) _ _ _ _ _ (not_written _ _ _ _ _ _ c.in_default.ensures)

pub returns-in-Ok : goal.returns-in-Ok
returns-in-Ok c = rw c.put_halt.ensures (written_within _ c.start.ensures _ (search rules) _ _ _ _ _ (written _ _ _ _ _ _ (set_out _ c.start.ensures (omega (arith, c.requires)) (omega (arith, c.requires)) (search rules) (search rules)) (rw c.put_cells.ensures at c.in-Ok.ensures)))
