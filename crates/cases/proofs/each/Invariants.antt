use Rattle.std.proofs.Common.{take, Ok}
use Rattle.std.specs.List.{FoldsTo}
use Rattle.cases.specs.Cases.{in_order}
use Rattle.cases.specs.Each.{Gives}
use Rattle.cases.proofs.each.Given as goal

abbrev pub invariant-loop-i : goal.invariant-loop-i
invariant-loop-i g l = goal.F-IsAlwaysCallable g l.f × FoldsTo (Gives (goal.F-step g) (Ok tt)) l.fn.f (take l.i (in_order l.mark l.cases)) l.f
