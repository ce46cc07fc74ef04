use Rattle.std.proofs.Common.{◌≤◌, length, drop}
use Rattle.std.specs.Slice.Iter.{iter_rest}
use Rattle.lines.specs.Forms.{filled}
use Rattle.lines.proofs.Adds.{Leads}
use Rattle.lines.proofs.fill.Given as goal

abbrev pub invariant-loop-b : goal.invariant-loop-b
invariant-loop-b l = Leads (filled l.form l.numbers) l.initial.page l.at (filled (drop l.b-index l.form) (iter_rest l.left)) l.page l.next × (l.next ≤ length l.page)
