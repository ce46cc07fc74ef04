use Rattle.std.proofs.Common.{◌-◌, ◌≤◌, length}
use Rattle.lines.specs.Times.{times}
use Rattle.lines.proofs.Adds.{Leads}
use Rattle.lines.proofs.put_many.Given as goal

abbrev pub invariant-loop : goal.invariant-loop
invariant-loop l = Leads (times l.n l.piece) l.initial.page l.at (times (l.n - l.counter) l.piece) l.page l.next × (l.next ≤ length l.page)
