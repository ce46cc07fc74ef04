use Rattle.std.proofs.Common.{◌≡◌}
use Rattle.place.specs.Places.{line_start}
use Rattle.place.proofs.line_start.Given as goal

abbrev pub invariant-loop-i : goal.invariant-loop-i
invariant-loop-i l = line_start l.text l.i ≡ line_start l.text l.p
