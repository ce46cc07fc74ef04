-- What is taken from here on is what is taken of the whole chunk and what follows.
use Rattle.std.proofs.Common.{◌≡◌, List, ◌++◌, ℕ, drop}
use Rattle.readings.specs.inner.Rest.{takes}
use Rattle.readings.proofs.more.Given as goal

abbrev pub invariant-loop-b : goal.invariant-loop-b
invariant-loop-b l = (rest : List ℕ) → takes l.reader l.numbers (drop l.b-index l.bytes ++ rest) ≡ takes l.initial.reader l.initial.numbers (l.bytes ++ rest)
