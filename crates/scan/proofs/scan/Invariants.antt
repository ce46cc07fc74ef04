use Prim.Native.Nat.{◌-◌}
use lib.ListN.{length}
use Rattle.limits.specs.Limits.{the_sizes}
use Rattle.lexeme.proofs.Scans.{Scan}
use Rattle.scan.proofs.scan.Given as goal

abbrev pub invariant-loop-l : goal.invariant-loop-l
invariant-loop-l l = Scan the_sizes l.text l.at

abbrev pub decreases-loop-l : goal.decreases-loop-l
decreases-loop-l l = length l.text - l.at
