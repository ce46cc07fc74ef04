-- The end from here on is the end from the beginning.
use Rattle.std.proofs.Common.{length, ◌-◌, ℕ, Bool, ◌≡◌, ◌+◌, ◌≤◌, drop}
use Rattle.base.specs.Bytes.{run}
use Rattle.base.specs.inner.Tests.{Tells}
use Rattle.base.proofs.run_end.Given as goal

abbrev pub invariant-loop-end : goal.invariant-loop-end
invariant-loop-end g l = record {
  onward : l.at ≤ l.end;
  same : (such : ℕ → Bool) → Tells (goal.P-post g l.is_such) such → l.end + length (run such (drop l.end l.text)) ≡ l.at + length (run such (drop l.at l.text));
}

abbrev pub decreases-loop-end : goal.decreases-loop-end
decreases-loop-end g l = length l.text - l.end
