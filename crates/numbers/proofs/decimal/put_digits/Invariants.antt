use Prim.Native.Nat.{◌≤◌}
use Rattle.numbers.proofs.Buffers.{Written}
use Rattle.numbers.proofs.decimal.put_digits.Given as goal

abbrev pub invariant-loop-rest : goal.invariant-loop-rest
invariant-loop-rest l = Written l.n l.rest l.at l.initial.buffer l.buffer × ((1 ≤ l.at) × (l.at ≤ 20))

abbrev pub decreases-loop-rest : goal.decreases-loop-rest
decreases-loop-rest l = l.rest
