use Prim.Native.Nat.{◌+◌, ◌*◌, ◌-◌}
use lib.ListN.{length}
use Rattle.compiler.specs.inner.Walks.{Got, term_so_far, first_term_way}
use Rattle.compiler.proofs.expression.+bracket_expression_factor_first_term_term.Given as goal

abbrev pub decreases-bracket : goal.decreases-bracket
decreases-bracket l = l.allow * 5

abbrev pub decreases-expression : goal.decreases-expression
decreases-expression l = l.allow * 5 + 4

abbrev pub decreases-factor : goal.decreases-factor
decreases-factor l = l.allow * 5 + 1

abbrev pub decreases-first_term : goal.decreases-first_term
decreases-first_term l = l.allow * 5 + 3

abbrev pub decreases-term : goal.decreases-term
decreases-term l = l.allow * 5 + 2

abbrev pub invariant-expression-loop-f : goal.invariant-expression-loop-f
invariant-expression-loop-f l = Got first_term_way l.text l.names l.fn.table l.fn.w l.allow l.names l.table l.so_far.walk l.so_far.need

abbrev pub decreases-expression-loop-f : goal.decreases-expression-loop-f
decreases-expression-loop-f l = length l.text - l.so_far.walk.next.place

abbrev pub invariant-term-loop-f : goal.invariant-term-loop-f
invariant-term-loop-f l = Got term_so_far l.text l.names l.fn.table l.fn.w l.allow l.names l.table l.so_far.walk l.so_far.need

abbrev pub decreases-term-loop-f : goal.decreases-term-loop-f
decreases-term-loop-f l = length l.text - l.so_far.walk.next.place
