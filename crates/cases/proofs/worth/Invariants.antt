use Rattle.std.proofs.Common.{◌≡◌, ◌<◌, drop}
use Rattle.cases.specs.Cases.{worth}
use Rattle.cases.proofs.worth.Given as goal

abbrev pub invariant-loop-b : goal.invariant-loop-b
invariant-loop-b l = (worth l.n (drop l.b-index l.digits) ≡ worth 0 l.digits) × (l.n < 101000)
