-- What is counted, and the count of what is left, are the whole count.
use Rattle.std.proofs.Common.{◌≡◌, ◌+◌, ◌≤◌, drop}
use Rattle.place.specs.Places.{count}
use Rattle.place.proofs.count_such.Given as goal

abbrev pub invariant-loop-b : goal.invariant-loop-b
invariant-loop-b g l = (l.n ≤ l.b-index) × (l.n + count g.T.Test.such (drop l.b-index l.bytes) ≡ count g.T.Test.such l.bytes)
