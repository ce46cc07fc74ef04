use Rattle.std.proofs.Common.{◌≤◌, map, length, drop}
use Rattle.lines.proofs.Adds.{Leads}
use Rattle.marks.specs.Shown.{seen}
use Rattle.marks.proofs.put_seen.Given as goal

abbrev pub invariant-loop-b : goal.invariant-loop-b
invariant-loop-b l = Leads (map seen l.bytes) l.initial.page l.at (map seen (drop l.b-index l.bytes)) l.page l.next × (l.next ≤ length l.page)
