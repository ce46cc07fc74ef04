use Rattle.std.proofs.Common.{◌≡◌, ◌++◌, map, take, drop}
use Rattle.cases.specs.Cases.{meant}
use Rattle.cases.proofs.put_meant.Given as goal

abbrev pub invariant-loop-b : goal.invariant-loop-b
invariant-loop-b l = take l.b-index l.file ++ map meant (drop l.b-index l.file) ≡ map meant l.initial.file
